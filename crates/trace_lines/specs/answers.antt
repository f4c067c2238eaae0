pub mod Counting
pub mod AnswerText
pub mod Blocks
pub mod Classes
