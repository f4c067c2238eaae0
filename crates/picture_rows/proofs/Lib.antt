mod Outcomes
mod Charted
mod Planned
mod Placed
