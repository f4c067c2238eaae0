pub mod NoiseLaws
pub mod StatusLaws
