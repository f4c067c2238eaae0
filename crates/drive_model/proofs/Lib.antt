pub mod FailLaws
pub mod MoveLaws
pub mod HeaderLaws
