pub mod ExitLaws
pub mod EndLaws
pub mod FormatLaws
pub mod WalkLaws
pub mod RefusalLaws
pub mod StepLaws
pub mod SurveyLaws
