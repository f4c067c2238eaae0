pub mod ServiceOrderLaws
pub mod ServiceOrderRuns
