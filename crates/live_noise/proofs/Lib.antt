pub mod BookLaws
pub mod EntryLaws
