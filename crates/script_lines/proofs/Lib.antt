pub mod Results
pub mod WordLaws
pub mod FieldLaws
pub mod KnownLaws
pub mod PlacesLaws
