-- What a snapshot hands out are the parts of the state when it was taken.
use Rattle.std.proofs.Common.{◌≡◌, ◌∙◌, ◌≤◌, ℕ, Bool, true, false, not, ◌&&◌, cond, inl, inr, unwrap_or, List, [], ◌∷◌, ◌++◌, append-nil, append_assoc, drop, length, map, take, Option, None, Some, IfSome, is_some, refl, sym, ap, arith}
use Rattle.std.specs.List.{flat_map, list_all}
use Rattle.std.proofs.lemmas.Bool.{and_from, and_parts, cases_Bool, not-true, not_from_false}
use Rattle.std.proofs.lemmas.List.Folds.{list_all-map}
use Rattle.std.proofs.lemmas.List.{map-append, take-append-le, take_all}
use Rattle.oai_item.specs.Item.{ItemState}
use Rattle.oai_item.specs.Items.{are_apart}
use Rattle.oai_item.specs.Order.{are_in_order}
use Rattle.oai_catalogue.specs.Store.{AreInOrder, VersionLists, list_at}
use Rattle.oai_lists.specs.OpenLists.{is_open, open_ones}
use Rattle.oai_lists.specs.declared.open_lists.OpenList.{OpenList}
use Rattle.oai_names.proofs.Lists.{all-filter}
use Rattle.oai_holdings.specs.Differences.{AreInOrderAndApart, ItemDifference, comes, goes}
use Rattle.oai_holdings.specs.Holdings.{NamedSet, no_holdings}
use Rattle.oai_holdings.specs.Index.{are_whole, has_writable_stamp}
use Rattle.oai_holdings.specs.Missing.{IsBatch, differences_of, goes_on, is_after, items_past, missing_in}
use Rattle.oai_holdings.specs.Purges.{is_in_core}
use Rattle.oai_holdings.specs.declared.differences.MissingItems.{MissingItems}
use Rattle.oai_holdings.specs.declared.differences.OwnedKey.{OwnedKey}
use Rattle.oai_holdings.proofs.BatchLemmas.{from_first}
use Rattle.oai_holdings.proofs.RestoreLemmas.{indexed_whole}
use Rattle.oai_holdings.proofs.MissingLaws.{last_batch, missing_lead, next_batch}
use Rattle.oai_repo.specs.Fields.{IsStored, KeepsOthers, RepoFields, frozen_in, has, numbers_of, state_of, versions_in}
use Rattle.oai_repo.specs.Saved.{SavedListState, SavedPartState, has_clock, has_list, has_named_set, with_parts}
use Rattle.oai_repo.specs.SavedLists.{AreBeginnings, Beginning, part_of_difference, parts_of_beginning}
use Rattle.oai_snapshots.specs.Snapshots.{AreFrozen, IsSnapshot, IsSnapshotTaken, SnapshotFields, SnapshotPlace, after_gone, are_apart_from, arriving, differences_left, going, have_whole, is_of_others, items_before, left_to_come, list_parts, numbers_of_snapshot, parts_left, saved_of, versions_left, with_before}
use Rattle.oai_snapshots.specs.declared.versions.SnapshotVersion.{SnapshotVersion}
use Rattle.oai_repo.specs.State.{FrozenList, RepoState}
use Rattle.oai_repo.proofs.SavedListLemmas.{listed_restored}

-- ---- a snapshot that is taken

all_differences : (items others : List ItemState) → differences_left (going None) items others ≡ differences_of items others
all_differences items others =
    ap (λ (xs : List ItemState). map (λ (item : ItemState). goes item.identifier) (missing_in others xs) ++ map comes (missing_in items others)) (from_first items)

apart_of : (a b c : Bool) → (a && b && c) ≡ true → a ≡ true
apart_of true b c h = refl
apart_of false b c h = cc

held_whole : (lists : VersionLists) (v : ℕ) → AreInOrder lists → are_whole (list_at lists v) ≡ true → AreInOrderAndApart (list_at lists v)
held_whole lists v ordered whole = record {
  ordered = ordered v;
  apart = apart_of (are_apart (list_at lists v)) (list_all is_in_core (list_at lists v)) (list_all has_writable_stamp (list_at lists v)) whole;
}

-- the beginnings of the lists, and what has changed since the last one
pub record Begun (items : List ItemState) (frozen : List FrozenList) (held : List ItemState) (left : List SavedPartState) : Type 0 where
  pub beginnings : List Beginning
  pub last : List ItemDifference
  pub are : AreBeginnings items beginnings last frozen held
  pub parts : left ≡ flat_map parts_of_beginning beginnings ++ map part_of_difference last

begun_from : (items : List ItemState) (lists : List OpenList) (v : ℕ) (before : VersionLists) (versions : List SnapshotVersion) (after : VersionLists) → AreInOrder before
    → AreInOrderAndApart items → list_all (λ (list : OpenList). are_whole (list_at before list.version)) lists ≡ true → are_whole (list_at before v) ≡ true
    → AreFrozen lists v before versions after
    → Begun items (map (frozen_in before) lists) (list_at before v) (versions_left after items (going None) versions)
begun_from items [] v before [] after ordered stands whole held frozen = absurd frozen
begun_from items (list ∷ lists) v before [] after ordered stands whole held frozen = absurd frozen
begun_from items [] v before (s ∷ versions) after ordered stands whole held frozen =
    let are : AreInOrderAndApart (list_at before v) = held_whole before v ordered held in record {
      beginnings = [];
      last = differences_of items (list_at before v);
      are = (refl, missing_lead items (list_at before v) stands are, are);
      parts =
          ap (λ (others : List ItemState). map part_of_difference (differences_left (going None) items others) ++ (list_parts s.list ++ versions_left after (list_at after s.version) (going None) versions)) frozen.2
          ∙ ap (λ (ds : List ItemDifference). map part_of_difference ds ++ (list_parts s.list ++ versions_left after (list_at after s.version) (going None) versions)) (all_differences items (list_at before v))
          ∙ ap (λ (l : Option SavedListState). map part_of_difference (differences_of items (list_at before v)) ++ (list_parts l ++ versions_left after (list_at after s.version) (going None) versions)) frozen.1
          ∙ ap (λ (vs : List SnapshotVersion). map part_of_difference (differences_of items (list_at before v)) ++ versions_left after (list_at after s.version) (going None) vs) frozen.0
          ∙ append-nil (map part_of_difference (differences_of items (list_at before v)));
    }
begun_from items (list ∷ lists) v before (s ∷ versions) after ordered stands whole held frozen =
    let parts = and_parts (are_whole (list_at before list.version)) (list_all (λ (one : OpenList). are_whole (list_at before one.version)) lists) whole in
    let others : List ItemState = list_at before list.version in
    let are : AreInOrderAndApart others = held_whole before list.version ordered parts.0 in
    let later = begun_from others lists v before versions after ordered are parts.1 held frozen.2 in
    let first : Beginning = record { differences = differences_of items others; list = saved_of list } in
    let rest : List SavedPartState = flat_map parts_of_beginning later.beginnings ++ map part_of_difference later.last in record {
      beginnings = first ∷ later.beginnings;
      last = later.last;
      are = (others, map (frozen_in before) lists, missing_lead items others stands are, are, refl, later.are);
      parts =
          ap (λ (xs : List ItemState). map part_of_difference (differences_left (going None) items xs) ++ (list_parts s.list ++ versions_left after xs (going None) versions)) frozen.1
          ∙ ap (λ (ds : List ItemDifference). map part_of_difference ds ++ (list_parts s.list ++ versions_left after others (going None) versions)) (all_differences items others)
          ∙ ap (λ (l : Option SavedListState). map part_of_difference (differences_of items others) ++ (list_parts l ++ versions_left after others (going None) versions)) frozen.0
          ∙ ap (λ (xs : List SavedPartState). map part_of_difference (differences_of items others) ++ (has_list (saved_of list) ∷ xs)) later.parts
          ∙ sym (append_assoc (map part_of_difference (differences_of items others)) (has_list (saved_of list) ∷ []) rest)
          ∙ sym (append_assoc (parts_of_beginning first) (flat_map parts_of_beginning later.beginnings) (map part_of_difference later.last));
    }

-- what an honest store holds of a repository can be read as a whole
pub stored_whole : (repo : RepoFields) (lists : VersionLists) → IsStored repo lists → have_whole (numbers_of repo) lists ≡ true
stored_whole repo lists held =
    and_from (are_whole (list_at lists repo.index.version)) (have_whole (versions_in repo.table) lists)
    (indexed_whole repo.config repo.index repo.sets lists held.indexed)
    (list_all-map (λ (v : ℕ). are_whole (list_at lists v)) (λ (list : OpenList). list.version) repo.table.lists ∙ held.agrees.whole)

pub snapshot_taken : (repo : RepoFields) (before after : VersionLists) (snapshot : SnapshotFields) → AreInOrder before → have_whole (numbers_of repo) before ≡ true
    → IsSnapshotTaken repo before snapshot after → IsSnapshot (state_of repo before) repo.sets after snapshot
snapshot_taken repo before after snapshot ordered whole taken =
    let both = and_parts (are_whole (list_at before repo.index.version)) (list_all (λ (v : ℕ). are_whole (list_at before v)) (versions_in repo.table)) whole in
    let open_whole = all-filter (λ (list : OpenList). are_whole (list_at before list.version)) (is_open repo.clock) repo.table.lists (sym (list_all-map (λ (v : ℕ). are_whole (list_at before v)) (λ (list : OpenList). list.version) repo.table.lists) ∙ both.1) in
    let none : AreInOrderAndApart [] = record { ordered = refl; apart = refl } in
    let begun = begun_from [] (open_ones repo.clock repo.table.lists) repo.index.version before snapshot.versions after ordered none open_whole both.0 taken.frozen in
    let sets : drop snapshot.given (take snapshot.sets repo.sets) ≡ repo.sets =
    ap (λ n. drop n (take snapshot.sets repo.sets)) taken.given ∙ ap (λ n. take n repo.sets) taken.sets ∙ take_all (length repo.sets) repo.sets (omega arith) in (
      begun.beginnings,
      begun.last,
      begun.are,
      ap (λ (b : Bool). (cond b [] (has_clock snapshot.clock snapshot.next ∷ [])) ++ (map has_named_set (drop snapshot.given (take snapshot.sets repo.sets)) ++ versions_left after (items_before after snapshot.before) snapshot.place snapshot.versions)) taken.begun
          ∙ ap (λ c. has_clock c snapshot.next ∷ (map has_named_set (drop snapshot.given (take snapshot.sets repo.sets)) ++ versions_left after (items_before after snapshot.before) snapshot.place snapshot.versions)) taken.clock
          ∙ ap (λ n. has_clock repo.clock n ∷ (map has_named_set (drop snapshot.given (take snapshot.sets repo.sets)) ++ versions_left after (items_before after snapshot.before) snapshot.place snapshot.versions)) taken.next
          ∙ ap (λ (all : List NamedSet). has_clock repo.clock repo.table.next ∷ (map has_named_set all ++ versions_left after (items_before after snapshot.before) snapshot.place snapshot.versions)) sets
          ∙ ap (λ (o : Option ℕ). has_clock repo.clock repo.table.next ∷ (map has_named_set repo.sets ++ versions_left after (items_before after o) snapshot.place snapshot.versions)) taken.first
          ∙ ap (λ (place : SnapshotPlace). has_clock repo.clock repo.table.next ∷ (map has_named_set repo.sets ++ versions_left after [] place snapshot.versions)) taken.place
          ∙ ap (λ (parts : List SavedPartState). has_clock repo.clock repo.table.next ∷ (map has_named_set repo.sets ++ parts)) begun.parts,
    )

pub snapshot_restored : (state start : RepoState) (sets : List NamedSet) (lists : VersionLists) (snapshot : SnapshotFields) → start.holdings ≡ no_holdings
    → IsSnapshot state sets lists snapshot → with_parts start (parts_left sets lists snapshot) ≡ state
snapshot_restored state start sets lists snapshot none is = ap (with_parts start) is.3 ∙ listed_restored state start is.0 is.1 none is.2

-- ---- what the repository does meanwhile

none-some : {A : Type 0} (o : Option A) → o ≡ None → is_some o ≡ true → ⊥
none-some None h g = cc
none-some (Some x) h g = cc

-- a version of others stays, and stays of others
pub other_kept : (old new : List ℕ) (before after : VersionLists) (n : ℕ) → KeepsOthers old before new after → is_of_others old before n ≡ true
    → (is_of_others new after n ≡ true) × (after n ≡ before n)
other_kept old new before after n keeps other =
    let parts = and_parts (is_some (before n)) (not (has old n)) other in
    let not_old : has old n ≡ false = not-true (has old n) parts.1 in
    elim (cases_Bool (has new n)) [
      | inl taken ↦ absurd (none-some (before n) (keeps.taken n not_old taken) parts.0)
      | inr not_new ↦
          let same : after n ≡ before n = keeps.others n not_old not_new in
          (and_from (is_some (after n)) (not (has new n)) (ap is_some same ∙ parts.0) (not_from_false (has new n) not_new), same)
    ]

others_kept : (old new : List ℕ) (before after : VersionLists) (numbers : List ℕ) → KeepsOthers old before new after → list_all (is_of_others old before) numbers ≡ true
    → list_all (is_of_others new after) numbers ≡ true
others_kept old new before after [] keeps all = refl
others_kept old new before after (n ∷ numbers) keeps all =
    let parts = and_parts (is_of_others old before n) (list_all (is_of_others old before) numbers) all in
    and_from (is_of_others new after n) (list_all (is_of_others new after) numbers) (other_kept old new before after n keeps parts.0).0 (others_kept old new before after numbers keeps parts.1)

list_kept : (old new : List ℕ) (before after : VersionLists) (n : ℕ) → KeepsOthers old before new after → is_of_others old before n ≡ true → list_at after n ≡ list_at before n
list_kept old new before after n keeps other = ap (λ (o : Option (List ItemState)). unwrap_or o []) (other_kept old new before after n keeps other).1

versions_kept : (old new : List ℕ) (before after : VersionLists) (items : List ItemState) (place : SnapshotPlace) (versions : List SnapshotVersion) → KeepsOthers old before new after
    → list_all (is_of_others old before) (map (λ (s : SnapshotVersion). s.version) versions) ≡ true → versions_left after items place versions ≡ versions_left before items place versions
versions_kept old new before after items place [] keeps all = refl
versions_kept old new before after items place (s ∷ versions) keeps all =
    let parts = and_parts (is_of_others old before s.version) (list_all (is_of_others old before) (map (λ (one : SnapshotVersion). one.version) versions)) all in
    ap (λ (xs : List ItemState). map part_of_difference (differences_left place items xs) ++ (list_parts s.list ++ versions_left after xs (going None) versions)) (list_kept old new before after s.version keeps parts.0)
    ∙ ap (λ (ps : List SavedPartState). map part_of_difference (differences_left place items (list_at before s.version)) ++ (list_parts s.list ++ ps))
    (versions_kept old new before after (list_at before s.version) (going None) versions keeps parts.1)

all_kept : (old new : List ℕ) (before after : VersionLists) (first : Option ℕ) (place : SnapshotPlace) (versions : List SnapshotVersion) → KeepsOthers old before new after
    → list_all (is_of_others old before) (with_before first (map (λ (s : SnapshotVersion). s.version) versions)) ≡ true
    → versions_left after (items_before after first) place versions ≡ versions_left before (items_before before first) place versions
all_kept old new before after None place versions keeps all = versions_kept old new before after [] place versions keeps all
all_kept old new before after (Some v) place versions keeps all =
    let parts = and_parts (is_of_others old before v) (list_all (is_of_others old before) (map (λ (s : SnapshotVersion). s.version) versions)) all in
    ap (λ (xs : List ItemState). versions_left after xs place versions) (list_kept old new before after v keeps parts.0)
    ∙ versions_kept old new before after (list_at before v) place versions keeps parts.1

pub snapshot_kept : (snapshot : SnapshotFields) (old new : List ℕ) (before after : VersionLists) (sets more : List NamedSet) → KeepsOthers old before new after
    → are_apart_from snapshot old before ≡ true → snapshot.sets ≤ length sets
    → (are_apart_from snapshot new after ≡ true) × (parts_left (sets ++ more) after snapshot ≡ parts_left sets before snapshot)
snapshot_kept snapshot old new before after sets more keeps apart few = (
  others_kept old new before after (numbers_of_snapshot snapshot) keeps apart,
  ap (λ (front : List NamedSet). (cond snapshot.begun [] (has_clock snapshot.clock snapshot.next ∷ [])) ++ (map has_named_set (drop snapshot.given front) ++ versions_left after (items_before after snapshot.before) snapshot.place snapshot.versions))
      (take-append-le snapshot.sets sets more few)
      ∙ ap (λ (parts : List SavedPartState). (cond snapshot.begun [] (has_clock snapshot.clock snapshot.next ∷ [])) ++ (map has_named_set (drop snapshot.given (take snapshot.sets sets)) ++ parts))
      (all_kept old new before after snapshot.before snapshot.place snapshot.versions keeps apart),
)

-- ---- in batches

pub batch_goes : (items others : List ItemState) (behind : Option OwnedKey) (batch : MissingItems) → are_in_order items ≡ true → IsBatch items others behind batch
    → IfSome batch.next (λ next. is_after next behind ≡ true)
    → differences_left (going behind) items others ≡ map (λ (item : ItemState). goes item.identifier) batch.items ++ differences_left (after_gone batch.next) items others
batch_goes items others behind batch ordered is further = by_next batch.next refl further
  where
    gone : List ItemState → List ItemDifference
    gone xs = map (λ (item : ItemState). goes item.identifier) xs

    coming_too : List ItemDifference
    coming_too = map comes (missing_in items others)

    by_next : (next : Option OwnedKey) → batch.next ≡ next → IfSome next (λ key. is_after key behind ≡ true)
        → gone (missing_in others (items_past behind items)) ++ coming_too ≡ gone batch.items ++ differences_left (after_gone next) items others
    by_next None e later =
        ap (λ (xs : List ItemState). gone xs ++ coming_too) (last_batch items others behind batch is e)
        ∙ ap (λ (xs : List ItemState). gone batch.items ++ map comes (missing_in items xs)) (sym (from_first others))
    by_next (Some key) e later =
        ap (λ (xs : List ItemState). gone xs ++ coming_too) (next_batch items others behind batch ordered is (ap (goes_on behind) e ∙ later))
        ∙ ap (λ (ds : List ItemDifference). ds ++ coming_too) (map-append (λ (item : ItemState). goes item.identifier) batch.items (missing_in others (items_past batch.next items)))
        ∙ append_assoc (gone batch.items) (gone (missing_in others (items_past batch.next items))) coming_too
        ∙ ap (λ (o : Option OwnedKey). gone batch.items ++ (gone (missing_in others (items_past o items)) ++ coming_too)) e

pub batch_comes : (items others : List ItemState) (behind : Option OwnedKey) (batch : MissingItems) → are_in_order others ≡ true → IsBatch others items behind batch
    → IfSome batch.next (λ next. is_after next behind ≡ true)
    → differences_left (arriving behind) items others ≡ map comes batch.items ++ left_to_come batch.next items others
batch_comes items others behind batch ordered is further = by_next batch.next refl further
  where
    by_next : (next : Option OwnedKey) → batch.next ≡ next → IfSome next (λ key. is_after key behind ≡ true)
        → map comes (missing_in items (items_past behind others)) ≡ map comes batch.items ++ left_to_come next items others
    by_next None e later = ap (map comes) (last_batch others items behind batch is e) ∙ sym (append-nil (map comes batch.items))
    by_next (Some key) e later =
        ap (map comes) (next_batch others items behind batch ordered is (ap (goes_on behind) e ∙ later))
        ∙ map-append comes batch.items (missing_in items (items_past batch.next others))
        ∙ ap (λ (o : Option OwnedKey). map comes batch.items ++ map comes (missing_in items (items_past o others))) e
