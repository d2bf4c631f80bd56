pub mod ArgumentLemmas
pub mod DecodingLemmas
pub mod RequestLemmas
