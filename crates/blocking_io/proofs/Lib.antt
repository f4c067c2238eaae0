mod Laying
mod Blocks
pub mod Taking
mod Sending
mod Calling
mod Waiting
mod Longer
mod Ending
mod Trying
mod Within
mod Stopped
mod Readying
pub mod Joined
pub mod Passes
pub mod Sites
pub mod Spots
pub mod FrontsBlocks
mod FrontsFronts
pub mod FrontsPasses
