pub mod BoundLemmas
pub mod CalendarLemmas
pub mod ClockLemmas
pub mod DateLemmas
pub mod DigitLemmas
pub mod ReadingLemmas
pub mod SecondTexts
pub mod StampLemmas
