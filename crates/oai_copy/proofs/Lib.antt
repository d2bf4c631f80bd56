pub mod OrderLemmas
pub mod ListedLemmas
pub mod SortLemmas
pub mod MergeLemmas
