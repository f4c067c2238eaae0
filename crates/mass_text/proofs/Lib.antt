pub mod FrontLaws
pub mod BlockLaws
pub mod DigitLaws
pub mod NumberLaws
pub mod PieceLaws
