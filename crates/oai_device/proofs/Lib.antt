pub mod HeldLemmas
pub mod PageFileLemmas
pub mod WrittenLemmas
