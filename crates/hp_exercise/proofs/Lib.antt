pub mod BoundLaws
pub mod CaseLaws
pub mod LineLaws
pub mod ReadyLaws
pub mod StepLaws
pub mod MarkLaws
pub mod TextLaws
