pub mod FieldLaws
pub mod LoadLaws
pub mod WordLaws
