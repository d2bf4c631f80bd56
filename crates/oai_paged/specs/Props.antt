-- No definition: leaves do not share pages, one fact, which shows the ghost field of a store.
use Rattle.std.proofs.Common.{List}
use Rattle.std.specs.List.{AllByRecursion, AllByRecursion-prop}
use Rattle.std.proofs.Props as std
use Rattle.oai_item.specs.Encoding.{Spells, encoded}
use Rattle.oai_item.specs.Item.{ItemState}
use Rattle.oai_places.specs.Pages.{AreStorable}
use Rattle.oai_places.specs.Places.{IsSoundPlace, Pages, PlaceState}
use Rattle.oai_places.specs.Sums.{AreGroups, AreTotals, GroupState, IsSoundGroup, IsSum, SumState}
use Rattle.oai_sums.specs.Sums.{SetTotal}

Spells-prop : (item : ItemState) → IsProp (Spells (encoded item) item)
Spells-prop item = hlevel std.props

pub AreStorable-prop : (items : List ItemState) → IsProp (AreStorable items)
AreStorable-prop items = AllByRecursion-prop _ Spells-prop items

pub IsSoundPlace-prop : (pages : Pages) (place : PlaceState) → IsProp (IsSoundPlace pages place)
IsSoundPlace-prop pages place = hlevel (AreStorable-prop, std.props)

pub ArePlaced-prop : (pages : Pages) (places : List PlaceState) → IsProp (AllByRecursion (IsSoundPlace pages) places)
ArePlaced-prop pages places = AllByRecursion-prop _ (IsSoundPlace-prop pages) places

pub ruleset shelved_props = (ArePlaced-prop, std.props)

AreTotals-prop : (totals : List SetTotal) (places : List PlaceState) → IsProp (AreTotals totals places)
AreTotals-prop totals places = hlevel std.props

IsSum-prop : (sum : SumState) (places : List PlaceState) → IsProp (IsSum sum places)
IsSum-prop sum places = hlevel (AreTotals-prop, std.props)

IsSoundGroup-prop : (places : List PlaceState) (group : GroupState) → IsProp (IsSoundGroup places group)
IsSoundGroup-prop places group = hlevel (IsSum-prop, std.props)

pub AreGroups-prop : (places : List PlaceState) (groups : List GroupState) → IsProp (AreGroups places groups)
AreGroups-prop places groups = AllByRecursion-prop _ (IsSoundGroup-prop places) groups

pub ruleset group_props = (AreGroups-prop, std.props)
