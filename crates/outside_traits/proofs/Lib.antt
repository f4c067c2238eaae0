pub mod TakenLaws
pub mod GatherLaws
