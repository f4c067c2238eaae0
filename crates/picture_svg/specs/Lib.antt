pub mod Holders
pub mod Legend
pub mod Nesting
pub mod Pictures
pub mod Places
pub mod Scales
pub mod Stretches
pub mod Texts
