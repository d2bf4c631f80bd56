pub mod Apart
mod AskedLemmas
mod InputLemmas
mod LineLemmas
mod ReadLemmas
mod SpaceLemmas
mod TraceLemmas
mod Traced
mod PieceLemmas
pub mod UsedLemmas
mod WrittenLines
