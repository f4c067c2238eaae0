pub mod BlockText
pub mod Numbers
pub mod Pieces
