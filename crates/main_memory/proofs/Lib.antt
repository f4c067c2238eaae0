pub mod BitLaws
pub mod BlockLaws
pub mod ByteLaws
pub mod FillLaws
pub mod FrameLaws
pub mod HeldLaws
pub mod LendLaws
