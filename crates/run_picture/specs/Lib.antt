pub mod Positioning
pub mod Columns
pub mod Places
pub mod Fold
