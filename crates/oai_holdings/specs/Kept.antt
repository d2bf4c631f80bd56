-- The invariants of a repository's items, whatever is asked of it. OAI-PMH 2.0, sections 2.3 to 2.6, and this
-- repository's own limits.
use Rattle.std.specs.Prelude.{◌≡◌, ◌≤◌, Bool, true, ◌&&◌, not, nat_lt, List, length, codes}
use Rattle.std.specs.List.{list_all}
use Rattle.oai_names.specs.Sets.{has_set}
use Rattle.oai_item.specs.Encoding.{encoded}
use Rattle.oai_item.specs.Item.{ItemState, has_record}
use Rattle.oai_item.specs.Items.{are_apart}
use Rattle.oai_item.specs.Known.{has_format, has_known_fields}
use Rattle.oai_item.specs.Order.{are_in_order}
use Rattle.oai_item.specs.declared.sizes.TheConstants.{MAX_ITEM_BYTES}
use Rattle.oai_settings.specs.Config.{RepositoryConfig}
use Rattle.oai_holdings.specs.Holdings.{Holdings, NamedSet}

-- its encoding has more than 1,048,576 bytes
abbrev pub is_too_large : ItemState → Bool
is_too_large item = nat_lt MAX_ITEM_BYTES (length (encoded item))

-- an item that satisfies the repository's invariants: it has a record in unqualified Dublin Core (section 2.5), each of
-- its records is in a format of the repository, has no other fields than that format's or keeps an element of it, and
-- has behind that only elements about the record (section 2.5), each of its setSpecs is that of a set, and it can be
-- stored
abbrev pub is_well_kept : RepositoryConfig → List NamedSet → ItemState → Bool
is_well_kept config sets item =
    has_record (codes "oai_dc") item.formats
    && list_all (has_format config.formats) item.formats
    && list_all (has_known_fields config.formats) item.formats
    && list_all (has_set sets) item.sets
    && not (is_too_large item)

-- the items are in their order, their identifiers are distinct, there are no more than the configuration allows, and
-- each satisfies the invariants
pub record AreKept (config : RepositoryConfig) (holdings : Holdings) : Type 0 where
  pub ordered : are_in_order holdings.items ≡ true
  pub apart : are_apart holdings.items ≡ true
  pub few : length holdings.items ≤ config.items
  pub well : list_all (is_well_kept config holdings.sets) holdings.items ≡ true
