-- The lists of the store of plain lists, for its private functions.
use Rattle.std.specs.BTreeMap.{BTreeMap, get}
use Rattle.std.specs.Ordering.{nat_cmp}
use Rattle.std.specs.Prelude.{ℕ, List}
use Rattle.oai_item.specs.Item.{ItemState}
use Rattle.oai_catalogue.specs.Store.{VersionLists}

-- the map as a function
abbrev pub lists_of : BTreeMap ℕ (List ItemState) → VersionLists
lists_of versions v = get nat_cmp versions v
