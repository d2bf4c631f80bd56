-- The filters of a purge, and of a read of all items, and what a purge removes: this repository's own.
use Rattle.std.specs.Prelude.{◌≡◌, ℤ, ◌-ℤ◌, pos, not, Bool, List, [], ◌∷◌, codes, Some, None}
use Rattle.oai_time.specs.declared.text.TheConstants.{FIRST_SECOND}
use Rattle.oai_item.specs.Item.{ItemState, has_record}
use Rattle.oai_item.specs.Items.{item_named, without_at}
use Rattle.oai_item.specs.Selection.{Filter}

-- the filter for the items with datestamps up to that one: each has a record in unqualified Dublin Core (OAI-PMH 2.0,
-- section 2.5)
abbrev pub until : ℤ → Filter
until last = record { prefix = codes "oai_dc"; lower = FIRST_SECOND; upper = last; set = None }

-- the filter for those with datestamps below the limit
abbrev pub below : ℤ → Filter
below limit = until (limit -ℤ pos 1)

-- the item has such a record
abbrev pub is_in_core : ItemState → Bool
is_in_core item = has_record (codes "oai_dc") item.formats

-- it is deleted
abbrev pub is_deleted : ItemState → Bool
is_deleted item = not item.live

-- each of them is found under its identifier after those before it are removed
abbrev pub AreFoundInTurn : List ItemState → List ItemState → Type 0
AreFoundInTurn [] items = Unit {0}
AreFoundInTurn (item ∷ gone) items = (item_named item.identifier items ≡ Some item) × AreFoundInTurn gone (without_at item.stamp item.identifier items)
