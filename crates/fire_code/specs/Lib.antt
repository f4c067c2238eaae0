pub mod Remainder
pub mod Residue
pub mod Burst
pub mod Word
pub mod Verdict
pub mod Noise
pub mod Repair
