pub mod Buckets
pub mod Runs
pub mod SortQueue
