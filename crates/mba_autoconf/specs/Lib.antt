pub mod Attach
pub mod Probe
