pub mod PassingLemmas
pub mod ReadingLemmas
pub mod SnapshotLemmas
pub mod TakingLemmas
