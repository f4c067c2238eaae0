mod Charting
mod Growing
mod Putting
