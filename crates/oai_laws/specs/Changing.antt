-- What an accepted change does to what is held. OAI-PMH 2.0, sections 2.3 to 2.6; that a purge removes deleted items is
-- this repository's own.
use Rattle.std.specs.Prelude.{◌≡◌, ◌≢◌, ◌≤ℤ◌, ◌↔◌, ◌⊎◌, ℕ, ℤ, true, List, [], ◌∷◌, ◌++◌, map, Option, Some, None}
use Rattle.std.specs.List.{Contains}
use Rattle.oai_time.specs.Bound.{IsBound, lower_of}
use Rattle.oai_time.specs.declared.bound.Bound.{Bound}
use Rattle.oai_item.specs.Givens.{kept}
use Rattle.oai_item.specs.Item.{ItemState, live_item, tombstone_of}
use Rattle.oai_item.specs.Items.{item_named}
use Rattle.oai_item.specs.Membership.{reduced}
use Rattle.oai_deposit.specs.declared.changes.Change.{Change}
use Rattle.oai_deposit.specs.declared.changes.Change.TheVariants as change
use Rattle.oai_item.specs.declared.deleted_record.DeletedRecord.{DeletedRecord}
use Rattle.oai_item.specs.declared.deleted_record.DeletedRecord.TheVariants.{No, Transient, Persistent}
use Rattle.oai_settings.specs.Config.{RepositoryConfig}
use Rattle.oai_holdings.specs.Changes.{stamp_at, told_stamp}
use Rattle.oai_holdings.specs.Holdings.{Holdings}
use Rattle.oai_repo.specs.State.{RepoState}

-- the identifier has that item, or none; each other identifier has what it had; and the sets are unchanged
pub record IsReplaced (identifier : List ℕ) (item : Option ItemState) (old new : Holdings) : Type 0 where
  pub named : item_named identifier new.items ≡ item
  pub others : (other : List ℕ) → other ≢ identifier → item_named other new.items ≡ item_named other old.items
  pub same_sets : new.sets ≡ old.sets

-- what is kept of a deleted item: nothing, or the tombstone, with its sets and prefixes and that datestamp (section
-- 2.5.1)
abbrev pub left_over : DeletedRecord → ℤ → ItemState → Option ItemState
left_over No stamp item = None
left_over Transient stamp item = Some (tombstone_of stamp item)
left_over Persistent stamp item = Some (tombstone_of stamp item)

-- the put finds the item as it makes it, but for its datestamp, and nothing is changed
pub record IsFound (item : ItemState) (old new : Holdings) : Type 0 where
  pub held : ItemState
  pub there : item_named item.identifier old.items ≡ Some held
  pub same : item ≡ record held { stamp = item.stamp }
  pub unchanged : new ≡ old

-- the item with the identifier is deleted: it was there, and live; and what is kept of it is there now
pub record IsDeleted (policy : DeletedRecord) (stamp : ℤ) (identifier : List ℕ) (old new : Holdings) : Type 0 where
  pub item : ItemState
  pub there : item_named identifier old.items ≡ Some item
  pub lived : item.live ≡ true
  pub replaced : IsReplaced identifier (left_over policy stamp item) old new

-- the repository is purged of deleted items: its policy allows it; and exactly those items stay that are live, or whose
-- datestamp is not before the day or the second that the text stands for
pub record IsPurged (policy : DeletedRecord) (text : List ℕ) (old new : Holdings) : Type 0 where
  pub forgetful : policy ≡ Transient
  pub bound : Bound
  pub is_bound : IsBound text bound
  pub members : (item : ItemState) → Contains new.items item ↔ (Contains old.items item × ((item.live ≡ true) ⊎ (lower_of bound ≤ℤ item.stamp)))
  pub same_sets : new.sets ≡ old.sets

-- the change, with that datestamp, has made the second of the first: the item of a deposit is live, in the given sets
-- and with the given records, as an item keeps them, without the setSpecs that cover another one; a put is that deposit, or
-- finds its item; a set is the last one
abbrev pub Makes : RepositoryConfig → ℤ → Change → Holdings → Holdings → Type 0
Makes config stamp (change.Deposit identifier sets records) old new = IsReplaced identifier (Some (live_item identifier stamp (reduced sets) (map kept records))) old new
Makes config stamp (change.Put identifier sets records) old new =
    let item = live_item identifier stamp (reduced sets) (map kept records) in IsFound item old new ⊎ IsReplaced identifier (Some item) old new
Makes config stamp (change.Delete identifier) old new = IsDeleted config.deleted stamp identifier old new
Makes config stamp (change.Purge before) old new = IsPurged config.deleted before old new
Makes config stamp (change.AddSet spec name) old new = (new.items ≡ old.items) × (new.sets ≡ old.sets ++ (spec, name) ∷ [])

-- the change was accepted with a datestamp: it is the clock's (section 2.7.1), or of a put that of its item, and what is
-- held is what the change makes with the clock's
pub record DoesChange (config : RepositoryConfig) (change : Change) (old new : RepoState) (stamp : ℤ) : Type 0 where
  pub dated : stamp ≡ told_stamp (stamp_at config old.clock) change new.holdings.items
  pub made : Makes config (stamp_at config old.clock) change old.holdings new.holdings
