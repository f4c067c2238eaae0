pub mod Sense
pub mod Verdicts
