pub mod ListLaws
pub mod PlaceLaws
