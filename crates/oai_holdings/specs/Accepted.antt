-- The entries of the index and the sets after an accepted change, whatever the store returns: this repository's own.
use Rattle.std.specs.Prelude.{◌≡◌, ◌⊎◌, ℕ, ℤ, List, [], ◌∷◌, ◌++◌, Option, None, Some, IsSome}
use Rattle.std.specs.Option.{unwrap_or}
use Rattle.oai_deposit.specs.declared.changes.Change.{Change}
use Rattle.oai_deposit.specs.declared.changes.Change.TheVariants as change
use Rattle.oai_item.specs.Item.{IsStamp}
use Rattle.oai_item.specs.declared.deleted_record.DeletedRecord.{DeletedRecord}
use Rattle.oai_item.specs.declared.deleted_record.DeletedRecord.TheVariants.{No, Transient, Persistent}
use Rattle.oai_holdings.specs.Entries.{ForgetsSome, SetsStamp, IndexEntries, stamp_in}
use Rattle.oai_holdings.specs.Holdings.{NamedSet}

-- the datestamp that the index has for a deleted item: none if the policy is to keep no deleted records, otherwise the
-- datestamp of its deletion (OAI-PMH 2.0, section 2.5.1)
abbrev pub stamp_after_deletion : DeletedRecord → ℤ → Option ℤ
stamp_after_deletion No stamp = None
stamp_after_deletion Transient stamp = Some stamp
stamp_after_deletion Persistent stamp = Some stamp

-- the entries after an accepted change with that datestamp: it is that of the item that was deposited or deleted, a put
-- is a deposit or changes none, a purge removes some, and no other entry is changed
abbrev pub StampsChange : DeletedRecord → ℤ → Change → IndexEntries → IndexEntries → Type 0
StampsChange deleted stamp (change.Deposit identifier sets records) old new = SetsStamp identifier (Some stamp) old new
StampsChange deleted stamp (change.Put identifier sets records) old new = (new ≡ old) ⊎ SetsStamp identifier (Some stamp) old new
StampsChange deleted stamp (change.Delete identifier) old new = IsSome (stamp_in identifier old) × SetsStamp identifier (stamp_after_deletion deleted stamp) old new
StampsChange deleted stamp (change.Purge before) old new = ForgetsSome old new
StampsChange deleted stamp (change.AddSet spec name) old new = new ≡ old

-- the sets after it: a new one is the last
abbrev pub sets_with : Change → List NamedSet → List NamedSet
sets_with (change.Deposit identifier sets records) named = named
sets_with (change.Put identifier sets records) named = named
sets_with (change.Delete identifier) named = named
sets_with (change.Purge before) named = named
sets_with (change.AddSet spec name) named = named ++ (spec, name) ∷ []

-- the entries and the sets after an accepted change
pub record KeepsChange (deleted : DeletedRecord) (stamp : ℤ) (change : Change) (old new : IndexEntries) (old_sets new_sets : List NamedSet) : Type 0 where
  pub entries : StampsChange deleted stamp change old new
  pub sets : new_sets ≡ sets_with change old_sets

-- the datestamp that answers it, by the entries after it: of a put, that of its item
abbrev pub noted_stamp : ℤ → Change → IndexEntries → ℤ
noted_stamp stamp (change.Deposit identifier sets records) entries = stamp
noted_stamp stamp (change.Put identifier sets records) entries = unwrap_or (stamp_in identifier entries) stamp
noted_stamp stamp (change.Delete identifier) entries = stamp
noted_stamp stamp (change.Purge before) entries = stamp
noted_stamp stamp (change.AddSet spec name) entries = stamp

-- it is answered so; the datestamp lies in the years 0000 to 9999
pub record IsAnsweredWith (stamp : ℤ) (change : Change) (entries : IndexEntries) (told : ℤ) : Type 0 where
  pub is : told ≡ noted_stamp stamp change entries
  pub writable : IsStamp told

-- the datestamp that answers a put of the identifier, by the entries after it
abbrev pub IsStampOfPut : ℤ → List ℕ → IndexEntries → ℤ → Type 0
IsStampOfPut stamp identifier entries told = (told ≡ unwrap_or (stamp_in identifier entries) stamp) × IsStamp told
