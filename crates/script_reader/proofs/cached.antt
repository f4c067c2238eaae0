pub mod Narrow
mod Wrongs
mod Wells
