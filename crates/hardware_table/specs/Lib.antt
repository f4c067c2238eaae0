pub mod Adapter
pub mod Drive
pub mod Events
pub mod Functions
pub mod Moves
pub mod Noise
