pub mod CleanLaws
pub mod WordLaws
