pub mod PlayLaws
pub mod SoFar
mod Standing
mod TheRunLaws
mod PlayRuns
pub mod ScriptLeft
pub mod ScriptRuns
mod AnsweredLaws
mod TableLaws
mod ReachLaws
mod RoomLaws
mod ExerciseLaws
