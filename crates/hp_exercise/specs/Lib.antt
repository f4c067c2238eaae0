pub mod Bounds
pub mod Exercise
pub mod Statements
pub mod ExerciseText
pub mod Room
