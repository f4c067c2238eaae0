pub mod Drawing
pub mod Loading
pub mod Inputs
pub mod Statuses
pub mod Words
