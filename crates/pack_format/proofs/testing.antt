pub mod BeginLaws
pub mod PollLaws
pub mod StageLaws
pub mod LongLaws
pub mod StopLaws
pub mod MoveLaws
