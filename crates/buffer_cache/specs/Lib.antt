pub mod Asks
pub mod Views
pub mod Calls
pub mod Passes
