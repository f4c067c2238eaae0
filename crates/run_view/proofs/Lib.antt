pub mod answers
pub mod SeeLaws
pub mod LinesTextLaws
pub mod UnitLaws
pub mod TextLaws
pub mod WatchLaws
pub mod ViewLaws
pub mod CaptionLaws
