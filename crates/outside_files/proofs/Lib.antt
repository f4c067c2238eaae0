pub mod FolderLaws
pub mod SinkLaws
