pub mod KnownBytes
pub mod PassLemmas
pub mod TurnLemmas
pub mod TableLemmas
pub mod RoundLemmas
pub mod WrapperLemmas
