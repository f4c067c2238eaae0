pub mod Polls
pub mod Stations
pub mod Stages
pub mod Stops
