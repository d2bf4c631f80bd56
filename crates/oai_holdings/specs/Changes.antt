-- What a change makes of a repository, or why it is refused. OAI-PMH 2.0, sections 2.3 to 2.7; that a change may be
-- refused is this repository's own.
use Rattle.std.specs.Prelude.{ℕ, ℤ, pos, Bool, true, false, ◌&&◌, not, nat_le, List, [], ◌∷◌, ◌++◌, map, length, codes, Option, Some, None, is_none, option_and_then, option_map, int_lt, filter, if◌then◌else◌}
use Rattle.std.specs.List.{list_all}
use Rattle.std.specs.Cmp.Lexicographic.{pointwise}
use Rattle.std.specs.Option.{option_or, unwrap_or}
use Rattle.std.specs.Str.{bytes_eq}
use Rattle.oai_names.specs.Sets.{has_set, has_parent}
use Rattle.oai_names.specs.declared.limits.TheConstants.{MAX_SETS}
use Rattle.oai_time.specs.Bound.{bound_of, is_no_finer_than, lower_of}
use Rattle.oai_time.specs.Stamp.{stamp_of}
use Rattle.oai_time.specs.declared.bound.Bound.{Bound}
use Rattle.oai_time.specs.declared.granularity.Granularity.{Granularity}
use Rattle.oai_item.specs.Givens.{GivenRecord, kept as as_kept}
use Rattle.oai_item.specs.Item.{ItemState, Metadata, has_record, live_item, tombstone_of}
use Rattle.oai_item.specs.Items.{item_named, without, placed}
use Rattle.oai_item.specs.Known.{has_format, has_listed_fields, is_of_format}
use Rattle.oai_item.specs.Membership.{reduced}
use Rattle.oai_deposit.specs.declared.changes.Change.{Change}
use Rattle.oai_deposit.specs.declared.changes.Change.TheVariants as change
use Rattle.oai_item.specs.declared.fields.Field.{Field}
use Rattle.oai_item.specs.declared.refusals.ChangeRefusal.{ChangeRefusal}
use Rattle.oai_item.specs.declared.refusals.ChangeRefusal.TheVariants.{UnknownSet, UnknownFormat, NoDc, UnknownField, NotOfFormat, DropsFormat, TooLarge, TooManyItems, NoSuchItem, AlreadyDeleted, NotTransient, BadDate, SetExists, NoParent, TooManySets}
use Rattle.oai_item.specs.declared.deleted_record.DeletedRecord.{DeletedRecord}
use Rattle.oai_item.specs.declared.deleted_record.DeletedRecord.TheVariants.{No, Transient, Persistent}
use Rattle.oai_settings.specs.Config.{RepositoryConfig}
use Rattle.oai_holdings.specs.Kept.{is_too_large}
use Rattle.oai_holdings.specs.Holdings.{Holdings, NamedSet}

-- ---- a deposit

-- why a deposit into these sets, of these records, is refused by itself: the first cause, in the order of their numbers
unfoldable pub deposit_refusal : RepositoryConfig → List NamedSet → List (List ℕ) → List GivenRecord → Option ChangeRefusal
deposit_refusal config sets specs records =
    if not (list_all (has_set sets) specs) then Some UnknownSet
    else (if not (list_all (has_format config.formats) (map as_kept records)) then Some UnknownFormat
    else (if not (has_record (codes "oai_dc") (map as_kept records)) then Some NoDc
    else (if not (list_all (has_listed_fields config.formats) records) then Some UnknownField
    else (if not (list_all (is_of_format config.formats) records) then Some NotOfFormat
    else None))))

-- the item that replaces it has no record in a format that the item has, or had when it was deleted
abbrev pub drops_format : Option ItemState → List Metadata → Bool
drops_format None records = false
drops_format (Some item) records = not (list_all (λ (metadata : Metadata). has_record metadata.0 records) item.formats)

-- it replaces none, and no further item may be added to that many
unfoldable pub is_one_too_many : RepositoryConfig → Option ItemState → ℕ → Bool
is_one_too_many config replaced count = is_none replaced && nat_le config.items count

-- why the item may not replace the one with its identifier, if there is one, among that many: the first cause
unfoldable pub item_refusal : RepositoryConfig → Option ItemState → ℕ → ItemState → Option ChangeRefusal
item_refusal config replaced count item =
    if drops_format replaced item.formats then Some DropsFormat
    else (if is_too_large item then Some TooLarge
    else (if is_one_too_many config replaced count then Some TooManyItems
    else None))

-- the item in place of the one with its identifier, if there is one
abbrev pub with_new : ItemState → List ItemState → List ItemState
with_new item items = placed item (without item.identifier items)

-- why the deposit that makes the item is refused: the first cause
abbrev pub deposit_cause : RepositoryConfig → Holdings → List (List ℕ) → List GivenRecord → ItemState → Option ChangeRefusal
deposit_cause config holdings specs records item = option_or
    (deposit_refusal config holdings.sets specs records)
    (item_refusal config (item_named item.identifier holdings.items) (length holdings.items) item)

-- ---- a put

-- the fields have the same name and the same text
abbrev pub is_same_field : Field → Field → Bool
is_same_field field other = bytes_eq field.name other.name && bytes_eq field.text other.text

-- the records have the same prefix and the same fields, in the same order
abbrev pub is_same_record : Metadata → Metadata → Bool
is_same_record metadata other = bytes_eq metadata.0 other.0 && pointwise is_same_field metadata.1 other.1

-- there is an item, it is live, and it has the sets and the records of the first one
abbrev pub is_held_so : ItemState → Option ItemState → Bool
is_held_so item None = false
is_held_so item (Some held) = held.live && pointwise bytes_eq item.sets held.sets && pointwise is_same_record item.formats held.formats

-- the items, if the one with its identifier is so already, whatever its datestamp; otherwise with the item in place of that one
abbrev pub with_put : ItemState → List ItemState → List ItemState
with_put item items = if is_held_so item (item_named item.identifier items) then items else with_new item items

-- an item, if there is one, whatever its datestamp
abbrev pub undated : Option ItemState → Option ItemState
undated found = option_map (λ (item : ItemState). record item { stamp = pos 0 }) found

-- ---- a deletion

-- there is no item to delete
abbrev pub missing_refusal : Option ItemState → Option ChangeRefusal
missing_refusal None = Some NoSuchItem
missing_refusal (Some item) = None

-- it is deleted
abbrev pub dead_refusal : Option ItemState → Option ChangeRefusal
dead_refusal None = None
dead_refusal (Some item) = if item.live then None else Some AlreadyDeleted

-- the items with the tombstone of that one, if there is one, in its place
abbrev pub with_tombstone : ℤ → Option ItemState → List ItemState → List ItemState
with_tombstone stamp None items = items
with_tombstone stamp (Some item) items = with_new (tombstone_of stamp item) items

-- the items after the deletion of the one with that identifier: if the policy is to keep no deleted records it is
-- removed, otherwise it stays as a deleted one (section 2.5.1)
abbrev pub after_deletion : DeletedRecord → ℤ → List ℕ → List ItemState → List ItemState
after_deletion No stamp identifier items = without identifier items
after_deletion Transient stamp identifier items = with_tombstone stamp (item_named identifier items) items
after_deletion Persistent stamp identifier items = with_tombstone stamp (item_named identifier items) items

-- ---- a purge

-- the policy allows a purge to remove deleted items (section 2.5.1)
abbrev pub is_transient : DeletedRecord → Bool
is_transient No = false
is_transient Transient = true
is_transient Persistent = false

-- the first second of a bound that is no finer than the datestamps
abbrev pub limit_in : Granularity → Bound → Option ℤ
limit_in granularity bound = if is_no_finer_than bound granularity then Some (lower_of bound) else None

-- and of the text, if it is such a bound (sections 2.7.1 and 3.3)
abbrev pub limit_of : Granularity → List ℕ → Option ℤ
limit_of granularity text = option_and_then (limit_in granularity) (bound_of text)

-- why deleted items below the bound may not be removed: the first cause
unfoldable pub purge_refusal : RepositoryConfig → List ℕ → Option ChangeRefusal
purge_refusal config before =
    if not (is_transient config.deleted) then Some NotTransient
    else (if is_none (limit_of config.granularity before) then Some BadDate
    else None)

-- the item is deleted, and its datestamp is below the limit
abbrev pub is_past : ℤ → ItemState → Bool
is_past limit item = not item.live && int_lt item.stamp limit

-- the items without those that are past
unfoldable pub purged : ℤ → List ItemState → List ItemState
purged limit items = filter (λ item. not (is_past limit item)) items

abbrev pub after_purge : Option ℤ → List ItemState → List ItemState
after_purge None items = items
after_purge (Some limit) items = purged limit items

-- ---- a new set

-- why the set may not be added to these: the first cause
unfoldable pub set_refusal : List NamedSet → List ℕ → Option ChangeRefusal
set_refusal sets spec =
    if has_set sets spec then Some SetExists
    else (if not (has_parent sets spec) then Some NoParent
    else (if nat_le MAX_SETS (length sets) then Some TooManySets
    else None))

-- ---- a change

-- the datestamp of a change at the clock
abbrev pub stamp_at : RepositoryConfig → ℤ → ℤ
stamp_at config clock = stamp_of config.granularity clock

-- why a change with that datestamp is refused: the first cause. A deposit makes a live item with the datestamp, in the
-- given sets, and with the given records, as they are kept; a put is refused as that deposit
unfoldable pub refusal_of : RepositoryConfig → ℤ → Holdings → Change → Option ChangeRefusal
refusal_of config stamp holdings (change.Deposit identifier sets records) =
    deposit_cause config holdings sets records (live_item identifier stamp (reduced sets) (map as_kept records))
refusal_of config stamp holdings (change.Put identifier sets records) =
    deposit_cause config holdings sets records (live_item identifier stamp (reduced sets) (map as_kept records))
refusal_of config stamp holdings (change.Delete identifier) =
    let found = item_named identifier holdings.items in option_or (missing_refusal found) (dead_refusal found)
refusal_of config stamp holdings (change.Purge before) = purge_refusal config before
refusal_of config stamp holdings (change.AddSet spec name) = set_refusal holdings.sets spec

-- what is held after a change with that datestamp that is not refused: the items without that identifier, and the new
-- one, or after a put the items as they are, if they have it already; or what a deletion leaves of them, or a purge; or the sets, and the new one after them
unfoldable pub changed : RepositoryConfig → ℤ → Holdings → Change → Holdings
changed config stamp holdings (change.Deposit identifier sets records) =
    record holdings { items = with_new (live_item identifier stamp (reduced sets) (map as_kept records)) holdings.items }
changed config stamp holdings (change.Put identifier sets records) =
    record holdings { items = with_put (live_item identifier stamp (reduced sets) (map as_kept records)) holdings.items }
changed config stamp holdings (change.Delete identifier) =
    record holdings { items = after_deletion config.deleted stamp identifier holdings.items }
changed config stamp holdings (change.Purge before) =
    record holdings { items = after_purge (limit_of config.granularity before) holdings.items }
changed config stamp holdings (change.AddSet spec name) = record holdings { sets = holdings.sets ++ (spec, name) ∷ [] }

-- the datestamp that answers an accepted change with that datestamp, by the items after it: of a put, that of its item
abbrev pub told_stamp : ℤ → Change → List ItemState → ℤ
told_stamp stamp (change.Deposit identifier sets records) items = stamp
told_stamp stamp (change.Put identifier sets records) items = unwrap_or (option_map (λ (item : ItemState). item.stamp) (item_named identifier items)) stamp
told_stamp stamp (change.Delete identifier) items = stamp
told_stamp stamp (change.Purge before) items = stamp
told_stamp stamp (change.AddSet spec name) items = stamp
