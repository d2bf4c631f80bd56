pub mod CountLemmas
pub mod NumberLemmas
pub mod SpanLemmas
pub mod PackedLemmas
