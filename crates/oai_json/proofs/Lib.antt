pub mod JsonLemmas
pub mod MemberLemmas
pub mod ReaderLemmas
pub mod ReadingLemmas
pub mod TokenLemmas
