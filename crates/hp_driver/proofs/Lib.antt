pub mod Sent
mod Behind
pub mod Moves
mod Room
mod Calls
mod Moved
mod Happens
mod Asking
mod Kept
mod Bytes
pub mod Passes
pub mod Joined
pub mod One
pub mod Next
pub mod Chosen
pub mod Facts
pub mod Begins
pub mod Whole
pub mod Going
pub mod Parts
pub mod Attends
pub mod Exits
pub mod Submitting
pub mod ReadBlocks
