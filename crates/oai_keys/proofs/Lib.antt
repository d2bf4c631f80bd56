pub mod AdmissionLemmas
pub mod ReadingLemmas
pub mod GuardLemmas
