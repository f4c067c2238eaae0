pub mod Move
pub mod Headers
