mod Once
mod Telling
mod Whole
