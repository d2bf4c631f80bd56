pub mod FirstLemmas
pub mod SameLemmas
