pub mod Positions
pub mod SpellingLemmas
pub mod TableLemmas
