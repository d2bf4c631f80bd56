-- The index of a repository's items, and what the repository holds by it, with the lists of a store: this repository's
-- own.
use Rattle.std.specs.Prelude.{◌≡◌, ℕ, int_le, Bool, true, ◌&&◌, List, length}
use Rattle.oai_time.specs.declared.text.TheConstants.{FIRST_SECOND, LAST_SECOND}
use Rattle.std.specs.List.{list_all}
use Rattle.std.specs.Option.{option_map}
use Rattle.oai_item.specs.Item.{ItemState}
use Rattle.oai_item.specs.Items.{are_apart, item_named}
use Rattle.oai_catalogue.specs.Store.{VersionLists, list_at}
use Rattle.oai_settings.specs.Config.{RepositoryConfig}
use Rattle.oai_holdings.specs.Kept.{AreKept}
use Rattle.oai_holdings.specs.Entries.{IndexEntries, stamp_in}
use Rattle.oai_holdings.specs.Holdings.{Holdings, NamedSet}
use Rattle.oai_holdings.specs.Purges.{is_in_core}

-- the index of the items of a repository: the number of their version in the store, and the datestamp of each
pub record ItemIndex : Type 0 where
  pub version : ℕ
  pub entries : IndexEntries

-- the items in that version
abbrev pub stored_items : ItemIndex → VersionLists → List ItemState
stored_items index lists = list_at lists index.version

-- and what is held, with these sets
abbrev pub holdings_of : ItemIndex → List NamedSet → VersionLists → Holdings
holdings_of index sets lists = record { items = stored_items index lists; sets = sets }

-- the identifiers of the items are distinct, and the entries say of each text whether an item has it, and with which
-- datestamp
pub record IndexAgrees (entries : IndexEntries) (items : List ItemState) : Type 0 where
  pub apart : are_apart items ≡ true
  pub each : (identifier : List ℕ) → stamp_in identifier entries ≡ option_map (λ (item : ItemState). item.stamp) (item_named identifier items)
  pub many : length entries ≡ length items

-- the datestamp of the item lies in the years 0000 to 9999
abbrev pub has_writable_stamp : ItemState → Bool
has_writable_stamp item = int_le FIRST_SECOND item.stamp && int_le item.stamp LAST_SECOND

-- the items are as those that a repository holds: distinct identifiers, a record in unqualified Dublin Core each
-- (OAI-PMH 2.0, section 2.5), and datestamps that can be written. A version with such items can be read as a whole
abbrev pub are_whole : List ItemState → Bool
are_whole items = are_apart items && list_all is_in_core items && list_all has_writable_stamp items

-- the items are those of the entries, satisfy the repository's invariants, and each has a datestamp that can be written
pub record IsIndexed (config : RepositoryConfig) (index : ItemIndex) (sets : List NamedSet) (lists : VersionLists) : Type 0 where
  pub agrees : IndexAgrees index.entries (stored_items index lists)
  pub kept : AreKept config (holdings_of index sets lists)
  pub dated : list_all has_writable_stamp (stored_items index lists) ≡ true
