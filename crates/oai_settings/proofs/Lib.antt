pub mod ConfigLemmas
pub mod FoldLemmas
