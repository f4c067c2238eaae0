pub mod Transfers
pub mod Calls
pub mod Blocks
pub mod Pieces
pub mod Moves
pub mod Passes
