pub mod Answers
pub mod Folder
pub mod Notes
