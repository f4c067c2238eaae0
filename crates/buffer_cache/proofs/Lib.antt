mod Maps
pub mod Joins
mod Exits
mod Orders
mod Stays
mod Turns
mod Wholes
mod Tills
mod Serving
pub mod Passes
