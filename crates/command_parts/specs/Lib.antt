pub mod Fields
pub mod Lines
pub mod Loading
pub mod Outside
pub mod Statuses
pub mod Words
