pub mod HomeLaws
pub mod HomeWriteLaws
pub mod PackLaws
pub mod PackTableLaws
pub mod TableEditBlocks
pub mod TableEditLaws
pub mod TableExists
pub mod TableLaws
