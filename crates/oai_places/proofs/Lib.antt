pub mod NameLemmas
pub mod PlaceLemmas
mod OrderedPlaces
pub mod DirectoryLemmas
mod PartLemmas
mod WantedLemmas
mod WindowLemmas
pub mod RecountLemmas
pub mod PageLemmas
mod EachLemmas
pub mod EntryLemmas
mod ReadLemmas
pub mod ShortLemmas
pub mod OverflowLemmas
mod JoinedLemmas
mod RisingItems
mod PutLemmas
pub mod CutLemmas
mod CommonRecords
pub mod BetweenLemmas
mod WantedPlaces
pub mod ResultLemmas
pub mod LoneItems
mod GroupLemmas
mod HaveReadLemmas
mod StretchLemmas
mod SumLemmas
mod SpanLemmas
pub mod SpendingLemmas
pub mod TestedLemmas
mod ReadPlaces
mod InsidePlaces
mod FindingLemmas
mod PickingLemmas
mod SpanPicking
