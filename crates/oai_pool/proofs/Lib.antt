pub mod CacheLemmas
pub mod NamesLemmas
mod TestingLemmas
