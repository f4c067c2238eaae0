pub mod Outcomes
pub mod Nested
pub mod Runs
pub mod Planned
pub mod Placed
pub mod Charted
