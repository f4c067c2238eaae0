pub mod CommandLaws
pub mod LoadLaws
