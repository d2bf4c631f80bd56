-- The items and sets that are saved, and which may be restored: this repository's own.
use Rattle.std.specs.Prelude.{◌≡◌, ◌⊎◌, ℕ, Bool, true, false, ◌&&◌, ◌||◌, not, ◌==◌, nat_lt, List, length, Option, None, Some, is_none, is_some, Result, Ok, Err}
use Rattle.std.specs.List.{list_any}
use Rattle.oai_item.specs.Elements.{behind_content, element_in}
use Rattle.oai_item.specs.Item.{ItemState, Metadata}
use Rattle.oai_item.specs.Items.{items_after}
use Rattle.oai_item.specs.declared.fields.Field.{Field}
use Rattle.oai_item.specs.declared.faults.Fault.{Fault}
use Rattle.oai_item.specs.declared.faults.Fault.TheVariants as fault
use Rattle.oai_settings.specs.Config.{RepositoryConfig}
use Rattle.oai_holdings.specs.Changes.{set_refusal}
use Rattle.oai_holdings.specs.Entries.{IndexEntries, stamp_in}
use Rattle.oai_holdings.specs.Kept.{is_well_kept}
use Rattle.oai_holdings.specs.Holdings.{NamedSet}

-- the items that come after that one, or all
abbrev pub items_behind : Option ItemState → List ItemState → List ItemState
items_behind None items = items
items_behind (Some last) items = items_after last.stamp last.identifier items

-- a set may be added if a change that adds it is not refused
abbrev pub may_have_set : List NamedSet → List ℕ → Bool
may_have_set sets spec = is_none (set_refusal sets spec)

-- an item may be added that satisfies the repository's invariants, if there are that many, and fewer than there may be
abbrev pub may_have_item : RepositoryConfig → List NamedSet → ℕ → ItemState → Bool
may_have_item config sets count item = is_well_kept config sets item && nat_lt count config.items

-- an item may go that is held
abbrev pub may_go : IndexEntries → List ℕ → Bool
may_go entries identifier = is_some (stamp_in identifier entries)

-- fields keep an element, as the record itself or about it
abbrev pub keep_elements : List Field → Bool
keep_elements fields = is_some (element_in fields) || not (length (behind_content fields) == 0)

-- a record is so kept
abbrev pub keeps_element : Metadata → Bool
keeps_element metadata = keep_elements metadata.1

-- a record of the item is
abbrev pub has_element : ItemState → Bool
has_element item = list_any keeps_element item.formats

-- a part cannot be restored; of one with elements memory may have run out as it was read
abbrev pub IsDamagedOrShort : Bool → Result (Unit {0}) Fault → Type 0
IsDamagedOrShort false result = result ≡ Err fault.Damaged
IsDamagedOrShort true result = (result ≡ Err fault.Damaged) ⊎ (result ≡ Err fault.NoMemory)

-- the fault of a call that restores a part, if the part can be restored; otherwise it says nothing of the store
abbrev pub fault_of_store : {A : Type 0} → Bool → Result A Fault → Result (Unit {0}) Fault
fault_of_store false result = Ok tt
fault_of_store true (Ok _) = Ok tt
fault_of_store true (Err fault) = Err fault
