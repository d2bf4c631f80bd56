mod FileLemmas
pub mod RenewalLemmas
mod StartLemmas
