mod Answered
mod Joins
mod Breaks
mod Moving
mod Exits
mod Loops
mod ReadPieces
mod ReadRanges
mod WritePieces
mod WriteRanges
mod Dumps
pub mod Passes
