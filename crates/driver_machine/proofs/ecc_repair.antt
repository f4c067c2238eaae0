pub mod Bytes
pub mod Flipping
pub mod Fronts
pub mod Laws
