pub mod EntryLaws
pub mod Listing
