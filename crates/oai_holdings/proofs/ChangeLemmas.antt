-- A change that is made, refused or fails in a part of what is held, as the definition of changes says it.
use Rattle.std.proofs.Common.{rules, ◌≡◌, ◌≢◌, ◌&&◌, Bool, true, false, cond, not, ℕ, List, [], ◌∷◌, ◌++◌, length, map, Option, Some, None, Result, Ok, Err, ℤ, pos, neg_ℤ, ◌<ℤ◌, ◌≤ℤ◌, FitsSigned, w64, refl, ap, subst, sym, ◌∙◌, arith}
use Rattle.std.proofs.lemmas.Int.{ints}
use Rattle.std.specs.Prelude.{int_le}
use Rattle.std.specs.List.{list_all}
use Rattle.std.specs.Option.{option_or}
use Rattle.oai_item.specs.declared.deleted_record.DeletedRecord.{DeletedRecord}
use Rattle.oai_item.specs.declared.deleted_record.DeletedRecord.TheVariants.{No, Transient, Persistent}
use Rattle.oai_item.specs.Givens.{GivenRecord, kept as as_kept}
use Rattle.oai_item.specs.Item.{IsStamp, ItemState, has_record, record_named, live_item, tombstone_of}
use Rattle.oai_item.specs.Items.{item_named, without}
use Rattle.oai_names.proofs.Lists.{all-filter}
use Rattle.oai_item.proofs.OrderLemmas.{all-placed}
use Rattle.oai_holdings.specs.Index.{has_writable_stamp}
use Rattle.oai_item.specs.Membership.{reduced}
use Rattle.oai_deposit.specs.declared.changes.Change.{Change}
use Rattle.oai_deposit.specs.declared.changes.Change.TheVariants as change
use Rattle.oai_holdings.specs.Changes.{refusal_of, after_deletion, after_purge, limit_of, purge_refusal, dead_refusal, missing_refusal, deposit_refusal, item_refusal, set_refusal, changed, is_held_so, is_past, purged, with_new, with_put, with_tombstone}
use Rattle.oai_settings.specs.Config.{RepositoryConfig}
use Rattle.oai_holdings.specs.Kept.{AreKept}
use Rattle.oai_holdings.specs.Holdings.{Holdings, NamedSet}
use Rattle.oai_holdings.specs.Indexing.{IsAfterChange, MakesChange}
use Rattle.oai_item.specs.declared.refusals.Refusal.{Refusal}
use Rattle.oai_item.specs.declared.refusals.Refusal.TheVariants as refusal
use Rattle.oai_holdings.proofs.KeptLemmas.{kept-changed, well-without}

-- where there is a record of some prefix, there is a record
pub carries : (prefix : List ℕ) (records : List GivenRecord) → has_record prefix (map as_kept records) ≡ true → records ≢ []
unfolding record_named
carries prefix [] h = cc
carries prefix (record' ∷ records) h = λ e. cc

-- ---- the parts

-- no cause is looked for later
no_later : {A : Type 0} (o : Option A) → o ≡ option_or o None
no_later None = refl
no_later (Some x) = refl

abbrev pub held : List ItemState → List NamedSet → Holdings
held items sets = record { items = items; sets = sets }

-- a deposit, made or not
pub deposit_done : (config : RepositoryConfig) (stamp : ℤ) (items new : List ItemState) (sets : List NamedSet)
    (identifier : List ℕ) (specs : List (List ℕ)) (records : List GivenRecord) (r : Result (Unit {0}) Refusal)
    → IsAfterChange (deposit_refusal config sets specs records) (item_refusal config (item_named identifier items) (length items) (live_item identifier stamp (reduced specs) (map as_kept records)))
    items (with_new (live_item identifier stamp (reduced specs) (map as_kept records)) items) r new
    → MakesChange config stamp (held items sets) (change.Deposit identifier specs records) r (held new sets)
unfolding refusal_of changed
deposit_done config stamp items new sets identifier specs records (Ok _) done =
    (done.0, ap (λ (xs : List ItemState). held xs sets) done.1)
deposit_done config stamp items new sets identifier specs records (Err (refusal.Refused cause)) done =
    (done.0, ap (λ (xs : List ItemState). held xs sets) done.1)
deposit_done config stamp items new sets identifier specs records (Err (refusal.Fault fault)) done =
    (done.0, ap (λ (xs : List ItemState). held xs sets) done.1)

-- a put, made or not
pub put_done : (config : RepositoryConfig) (stamp : ℤ) (items new : List ItemState) (sets : List NamedSet)
    (identifier : List ℕ) (specs : List (List ℕ)) (records : List GivenRecord) (r : Result (Unit {0}) Refusal)
    → IsAfterChange (deposit_refusal config sets specs records) (item_refusal config (item_named identifier items) (length items) (live_item identifier stamp (reduced specs) (map as_kept records)))
    items (with_put (live_item identifier stamp (reduced specs) (map as_kept records)) items) r new
    → MakesChange config stamp (held items sets) (change.Put identifier specs records) r (held new sets)
unfolding refusal_of changed
put_done config stamp items new sets identifier specs records (Ok _) done =
    (done.0, ap (λ (xs : List ItemState). held xs sets) done.1)
put_done config stamp items new sets identifier specs records (Err (refusal.Refused cause)) done =
    (done.0, ap (λ (xs : List ItemState). held xs sets) done.1)
put_done config stamp items new sets identifier specs records (Err (refusal.Fault fault)) done =
    (done.0, ap (λ (xs : List ItemState). held xs sets) done.1)

-- a deletion, made or not
pub deletion_done : (config : RepositoryConfig) (stamp : ℤ) (items new : List ItemState) (sets : List NamedSet) (identifier : List ℕ) (r : Result (Unit {0}) Refusal)
    → IsAfterChange (missing_refusal (item_named identifier items)) (dead_refusal (item_named identifier items)) items (after_deletion config.deleted stamp identifier items) r new
    → MakesChange config stamp (held items sets) (change.Delete identifier) r (held new sets)
unfolding refusal_of changed
deletion_done config stamp items new sets identifier (Ok _) done = (done.0, ap (λ (xs : List ItemState). held xs sets) done.1)
deletion_done config stamp items new sets identifier (Err (refusal.Refused cause)) done = (done.0, ap (λ (xs : List ItemState). held xs sets) done.1)
deletion_done config stamp items new sets identifier (Err (refusal.Fault fault)) done =
    (done.0, ap (λ (xs : List ItemState). held xs sets) done.1)

-- a purge, made or not
pub purge_done : (config : RepositoryConfig) (stamp : ℤ) (items new : List ItemState) (sets : List NamedSet) (before : List ℕ) (r : Result (Unit {0}) Refusal)
    → IsAfterChange (purge_refusal config before) None items (after_purge (limit_of config.granularity before) items) r new
    → MakesChange config stamp (held items sets) (change.Purge before) r (held new sets)
unfolding refusal_of changed
purge_done config stamp items new sets before (Ok _) done = (no_later (purge_refusal config before) ∙ done.0, ap (λ (xs : List ItemState). held xs sets) done.1)
purge_done config stamp items new sets before (Err (refusal.Refused cause)) done =
    (no_later (purge_refusal config before) ∙ done.0, ap (λ (xs : List ItemState). held xs sets) done.1)
purge_done config stamp items new sets before (Err (refusal.Fault fault)) done =
    (done.0, ap (λ (xs : List ItemState). held xs sets) done.1)

-- a new set, added or not
pub set_done : (config : RepositoryConfig) (stamp : ℤ) (items : List ItemState) (sets new : List NamedSet) (set name : List ℕ) (r : Result (Unit {0}) Refusal)
    → IsAfterChange (set_refusal sets set) None sets (sets ++ (set, name) ∷ []) r new
    → MakesChange config stamp (held items sets) (change.AddSet set name) r (held items new)
unfolding refusal_of changed
set_done config stamp items sets new set name (Ok _) done =
    (no_later (set_refusal sets set) ∙ done.0, ap (λ (xs : List NamedSet). held items xs) done.1)
set_done config stamp items sets new set name (Err (refusal.Refused cause)) done =
    (no_later (set_refusal sets set) ∙ done.0, ap (λ (xs : List NamedSet). held items xs) done.1)
set_done config stamp items sets new set name (Err (refusal.Fault fault)) done =
    (done.0, ap (λ (xs : List NamedSet). held items xs) done.1)

-- ---- what is kept

-- what is held is as it should be after a change, made or not
pub kept-made : (config : RepositoryConfig) (stamp : ℤ) (old : Holdings) (asked : Change) (result : Result (Unit {0}) Refusal) (new : Holdings)
    → MakesChange config stamp old asked result new → AreKept config old → AreKept config new
kept-made config stamp old asked (Ok _) new made kept = rw made.1 (kept-changed config stamp old asked made.0 kept)
kept-made config stamp old asked (Err (refusal.Refused cause)) new made kept = rw made.1 kept
kept-made config stamp old asked (Err (refusal.Fault fault)) new made kept = rw made.1 kept

-- ---- the datestamps

-- a datestamp is a number of 64 bits
pub stamp_fits : (stamp : ℤ) → IsStamp stamp → FitsSigned w64 stamp
stamp_fits stamp h =
    let below : stamp <ℤ pos 9_223_372_036_854_775_808 = grind (arith, ints) in
    let above : neg_ℤ (pos 9_223_372_036_854_775_808) ≤ℤ stamp = grind (arith, ints) in
    search (rules, below, above)

pub dated_at : (stamp : ℤ) → IsStamp stamp → (int_le (neg_ℤ (pos 62_167_219_200)) stamp && int_le stamp (pos 253_402_300_799)) ≡ true
dated_at stamp is = grind (arith, ints, is.0, is.1)

pub dated_new : (item : ItemState) (items : List ItemState) → has_writable_stamp item ≡ true → list_all has_writable_stamp items ≡ true → list_all has_writable_stamp (with_new item items) ≡ true
dated_new item items one all = all-placed has_writable_stamp item (without item.identifier items) one (well-without has_writable_stamp item.identifier items all)

dated_put : (item : ItemState) (items : List ItemState) → has_writable_stamp item ≡ true → list_all has_writable_stamp items ≡ true → list_all has_writable_stamp (with_put item items) ≡ true
dated_put item items one all = by_test (is_held_so item (item_named item.identifier items))
  where
    by_test : (b : Bool) → list_all has_writable_stamp (cond b items (with_new item items)) ≡ true
    by_test true = all
    by_test false = dated_new item items one all

dated_buried : (stamp : ℤ) (found : Option ItemState) (items : List ItemState) → IsStamp stamp → list_all has_writable_stamp items ≡ true → list_all has_writable_stamp (with_tombstone stamp found items) ≡ true
dated_buried stamp None items is all = all
dated_buried stamp (Some item) items is all = dated_new (tombstone_of stamp item) items (dated_at stamp is) all

dated_deleted : (policy : DeletedRecord) (stamp : ℤ) (identifier : List ℕ) (items : List ItemState) → IsStamp stamp → list_all has_writable_stamp items ≡ true
    → list_all has_writable_stamp (after_deletion policy stamp identifier items) ≡ true
dated_deleted No stamp identifier items is all = well-without has_writable_stamp identifier items all
dated_deleted Transient stamp identifier items is all = dated_buried stamp (item_named identifier items) items is all
dated_deleted Persistent stamp identifier items is all = dated_buried stamp (item_named identifier items) items is all

dated_purged : (limit : Option ℤ) (items : List ItemState) → list_all has_writable_stamp items ≡ true → list_all has_writable_stamp (after_purge limit items) ≡ true
unfolding purged
dated_purged None items all = all
dated_purged (Some limit) items all = all-filter has_writable_stamp (λ item. not (is_past limit item)) items all

dated_changed : (config : RepositoryConfig) (stamp : ℤ) (holdings : Holdings) (asked : Change) → IsStamp stamp → list_all has_writable_stamp holdings.items ≡ true
    → list_all has_writable_stamp (changed config stamp holdings asked).items ≡ true
unfolding changed
dated_changed config stamp holdings (change.Deposit identifier sets records) is all = dated_new (live_item identifier stamp (reduced sets) (map as_kept records)) holdings.items (dated_at stamp is) all
dated_changed config stamp holdings (change.Put identifier sets records) is all = dated_put (live_item identifier stamp (reduced sets) (map as_kept records)) holdings.items (dated_at stamp is) all
dated_changed config stamp holdings (change.Delete identifier) is all = dated_deleted config.deleted stamp identifier holdings.items is all
dated_changed config stamp holdings (change.Purge before) is all = dated_purged (limit_of config.granularity before) holdings.items all
dated_changed config stamp holdings (change.AddSet spec name) is all = all

-- each item has a datestamp that can be written after a change, made or not
pub dated-made : (config : RepositoryConfig) (stamp : ℤ) (old : Holdings) (asked : Change) (result : Result (Unit {0}) Refusal) (new : Holdings)
    → MakesChange config stamp old asked result new → IsStamp stamp → list_all has_writable_stamp old.items ≡ true → list_all has_writable_stamp new.items ≡ true
dated-made config stamp old asked (Ok _) new made is all = subst (λ (h : Holdings). list_all has_writable_stamp h.items ≡ true) (sym made.1) (dated_changed config stamp old asked is all)
dated-made config stamp old asked (Err (refusal.Refused cause)) new made is all = subst (λ (h : Holdings). list_all has_writable_stamp h.items ≡ true) (sym made.1) all
dated-made config stamp old asked (Err (refusal.Fault fault)) new made is all = subst (λ (h : Holdings). list_all has_writable_stamp h.items ≡ true) (sym made.1) all
