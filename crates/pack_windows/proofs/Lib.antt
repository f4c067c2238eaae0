pub mod PartLaws
pub mod AheadLaws
