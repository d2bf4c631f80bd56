-- Versions that are frozen one after the other, and released.
use Rattle.std.proofs.Common.{◌≡◌, ◌∙◌, ◌+◌, ◌<◌, ℕ, ℤ, zero, suc, arith, append-nil, get_or, length, length-append, take, Bool, true, false, not, ◌||◌, eqb, cond, inl, inr, List, [], ◌∷◌, ◌++◌, map, Option, None, Some, IfSome, IsSome, is_some, unwrap_or, refl, sym, ap, subst}
use Rattle.std.specs.Prelude.{filter, slice_get}
use Rattle.std.specs.List.{list_all}
use Rattle.std.proofs.lemmas.Bool.{and_from, and_parts, cases_Bool, cond-false, cond-true, cond_both, eqb-true, false_from_ne_true, not-true, not_from_false, or_left, or_right}
use Rattle.std.proofs.lemmas.List.{length-map, map-append, take_more}
use Rattle.std.proofs.lemmas.List.Elements.{filter-append}
use Rattle.std.proofs.lemmas.List.Folds.{list_all-map}
use Rattle.oai_item.specs.Item.{ItemState}
use Rattle.oai_catalogue.specs.Store.{Spares, VersionLists, list_at, with_list, without_list}
use Rattle.oai_catalogue.specs.declared.versions.Versions.{Ghosts}
use Rattle.oai_catalogue.proofs.ListsLemmas.{list_at-with, same_lists}
use Rattle.oai_lists.specs.OpenLists.{is_open, open_ones}
use Rattle.oai_lists.specs.declared.open_lists.OpenList.{OpenList}
use Rattle.oai_names.proofs.Lists.{all-filter}
use Rattle.oai_repo.specs.Fields.{AreInUse, KeepsOthers, RepoFields, are_different, has, numbers_of, versions_in}
use Rattle.oai_repo.proofs.NumberLemmas.{clash, in_use_end, kept_end, kept_same, kept_twice, same_number, some_true, turned, unused_lacks, used_at, used_by}
use Rattle.oai_snapshots.specs.Snapshots.{AreFrozen, is_of_others, versions_of, with_before, without_lists}
use Rattle.oai_snapshots.specs.declared.versions.SnapshotVersion.{SnapshotVersion}
use Rattle.oai_snapshots.specs.Taking.{AreCopies, HasFrozen, are_in_use, source_of, source_of_items, sources_of, with_open}

-- ---- one more that is frozen

versions_end : (versions : List SnapshotVersion) (s : SnapshotVersion) → versions_of (versions ++ s ∷ []) ≡ versions_of versions ++ s.version ∷ []
versions_end versions s = map-append (λ (one : SnapshotVersion). one.version) versions (s ∷ [])

none_some : (o : Option (List ItemState)) → o ≡ None → is_some o ≡ true → ⊥
none_some None h g = cc
none_some (Some x) h g = cc

-- a number that was in use has the list that it had
used_same : (n : ℕ) (numbers : List ℕ) (before after : VersionLists) → KeepsOthers [] before numbers after → is_some (before n) ≡ true → after n ≡ before n
used_same n numbers before after keeps used = keeps.others n refl (false_from_ne_true (has numbers n) (λ there. none_some (before n) (keeps.taken n refl there) used))

copies_kept : (sources : List SnapshotVersion) (before : VersionLists) (versions : List SnapshotVersion) (between after : VersionLists)
    → ((n : ℕ) → has (versions_of versions) n ≡ true → after n ≡ between n) → AreCopies sources before versions between → AreCopies sources before versions after
copies_kept [] before [] between after same copies = tt
copies_kept [] before (s ∷ versions) between after same copies = absurd copies
copies_kept (source ∷ sources) before [] between after same copies = absurd copies
copies_kept (source ∷ sources) before (s ∷ versions) between after same copies = (
  copies.0,
  ap (λ (o : Option (List ItemState)). unwrap_or o []) (same s.version (or_left (eqb s.version s.version) (has (versions_of versions) s.version) (same_number s.version))) ∙ copies.1,
  copies_kept sources before versions between after (λ n there. same n (or_right (eqb s.version n) (has (versions_of versions) n) there)) copies.2,
)

copies_end : (sources : List SnapshotVersion) (source : SnapshotVersion) (before : VersionLists) (versions : List SnapshotVersion) (s : SnapshotVersion) (after : VersionLists)
    → AreCopies sources before versions after → s.list ≡ source.list → list_at after s.version ≡ list_at before source.version
    → AreCopies (sources ++ source ∷ []) before (versions ++ s ∷ []) after
copies_end [] source before [] s after copies list items = (list, items, tt)
copies_end [] source before (one ∷ versions) s after copies list items = absurd copies
copies_end (x ∷ sources) source before [] s after copies list items = absurd copies
copies_end (x ∷ sources) source before (one ∷ versions) s after copies list items = (copies.0, copies.1, copies_end sources source before versions s after copies.2 list items)

with_other : (n w : ℕ) (numbers : List ℕ) (items : List ItemState) (lists : VersionLists) → has numbers n ≡ true → has numbers w ≡ false → with_list w items lists n ≡ lists n
with_other n w numbers items lists there lacks =
    cond-false (eqb n w) (Some items) (lists n) (false_from_ne_true (eqb n w) (λ same. clash (has numbers n) there (ap (has numbers) (eqb-true n w same) ∙ lacks)))

pub frozen_none : (lists : VersionLists) → HasFrozen [] lists [] lists
frozen_none lists = record { copies = tt; stands = record { used = refl; apart = refl }; others = kept_same [] lists }

frozen_with : (sources : List SnapshotVersion) (source : SnapshotVersion) (before : VersionLists) (versions : List SnapshotVersion) (between : VersionLists) (s : SnapshotVersion)
    → HasFrozen sources before versions between → is_some (before source.version) ≡ true → between s.version ≡ None → s.list ≡ source.list
    → HasFrozen (sources ++ source ∷ []) before (versions ++ s ∷ []) (with_list s.version (list_at between source.version) between)
frozen_with sources source before versions between s frozen used free list =
    let numbers : List ℕ = versions_of versions in
    let items : List ItemState = list_at between source.version in
    let after : VersionLists = with_list s.version items between in
    let lacks : has numbers s.version ≡ false = unused_lacks numbers between s.version frozen.stands.used free in
    let same : items ≡ list_at before source.version = ap (λ (o : Option (List ItemState)). unwrap_or o []) (used_same source.version numbers before between frozen.others used) in
    record {
      copies = copies_end sources source before versions s after
          (copies_kept sources before versions between after (λ n there. with_other n s.version numbers items between there lacks) frozen.copies)
          list
          (list_at-with s.version items between ∙ same);
      stands = subst (λ (ns : List ℕ). AreInUse ns after) (sym (versions_end versions s)) (in_use_end numbers s.version items between frozen.stands free);
      others = subst (λ (ns : List ℕ). KeepsOthers [] before ns after) (sym (versions_end versions s))
          (kept_twice [] numbers (numbers ++ s.version ∷ []) before between after frozen.others (kept_end numbers s.version items between free));
    }

pub frozen_next : (sources : List SnapshotVersion) (source : SnapshotVersion) (before : VersionLists) (versions : List SnapshotVersion) (between : VersionLists) (s : SnapshotVersion) (after : VersionLists)
    → HasFrozen sources before versions between → is_some (before source.version) ≡ true → between s.version ≡ None → s.list ≡ source.list
    → after ≡ with_list s.version (list_at between source.version) between
    → HasFrozen (sources ++ source ∷ []) before (versions ++ s ∷ []) after
frozen_next sources source before versions between s after frozen used free list is =
    subst (λ (lists : VersionLists). HasFrozen (sources ++ source ∷ []) before (versions ++ s ∷ []) lists) (sym is)
    (frozen_with sources source before versions between s frozen used free list)

-- a source that is in use still stands
pub source_stands : (sources : List SnapshotVersion) (before : VersionLists) (versions : List SnapshotVersion) (between : VersionLists) (n : ℕ) → HasFrozen sources before versions between
    → is_some (before n) ≡ true → IsSome (between n)
source_stands sources before versions between n frozen used =
    some_true (between n) (ap is_some (used_same n (versions_of versions) before between frozen.others used) ∙ used)

-- ---- the versions of a repository

frozen_lists : (lists : List OpenList) (v : ℕ) (before : VersionLists) (versions : List SnapshotVersion) (after : VersionLists)
    → AreCopies (map source_of lists ++ source_of_items v ∷ []) before versions after → AreFrozen lists v before versions after
frozen_lists [] v before [] after copies = absurd copies
frozen_lists [] v before (s ∷ []) after copies = (refl, copies.0, copies.1)
frozen_lists [] v before (s ∷ one ∷ versions) after copies = absurd copies.2
frozen_lists (list ∷ lists) v before [] after copies = absurd copies
frozen_lists (list ∷ lists) v before (s ∷ versions) after copies = (copies.0, copies.1, frozen_lists lists v before versions after copies.2)

pub frozen_repo : (repo : RepoFields) (before : VersionLists) (versions : List SnapshotVersion) (after : VersionLists) → AreCopies (sources_of repo) before versions after
    → AreFrozen (open_ones repo.clock repo.table.lists) repo.index.version before versions after
frozen_repo repo before versions after copies = frozen_lists (open_ones repo.clock repo.table.lists) repo.index.version before versions after copies

all_sources : (p : ℕ → Bool) (lists : List OpenList) (v : ℕ) → list_all (λ (list : OpenList). p list.version) lists ≡ true → p v ≡ true
    → list_all (λ (s : SnapshotVersion). p s.version) (map source_of lists ++ source_of_items v ∷ []) ≡ true
all_sources p [] v all last = and_from (p v) true last refl
all_sources p (list ∷ lists) v all last =
    let parts = and_parts (p list.version) (list_all (λ (one : OpenList). p one.version) lists) all in
    and_from (p list.version) (list_all (λ (s : SnapshotVersion). p s.version) (map source_of lists ++ source_of_items v ∷ [])) parts.0 (all_sources p lists v parts.1 last)

-- what is so of each number of a repository is so of each source
pub all_of_repo : (p : ℕ → Bool) (repo : RepoFields) → list_all p (numbers_of repo) ≡ true → list_all (λ (s : SnapshotVersion). p s.version) (sources_of repo) ≡ true
all_of_repo p repo all =
    let parts = and_parts (p repo.index.version) (list_all p (versions_in repo.table)) all in
    all_sources p (open_ones repo.clock repo.table.lists) repo.index.version
    (all-filter (λ (list : OpenList). p list.version) (is_open repo.clock) repo.table.lists (sym (list_all-map p (λ (list : OpenList). list.version) repo.table.lists) ∙ parts.1))
    parts.0

-- what is so of the items of each source is so of those of each copy
pub all_copies : (p : List ItemState → Bool) (sources : List SnapshotVersion) (before : VersionLists) (versions : List SnapshotVersion) (after : VersionLists)
    → list_all (λ (s : SnapshotVersion). p (list_at before s.version)) sources ≡ true → AreCopies sources before versions after
    → list_all (λ (v : ℕ). p (list_at after v)) (versions_of versions) ≡ true
all_copies p [] before [] after all copies = refl
all_copies p [] before (s ∷ versions) after all copies = absurd copies
all_copies p (source ∷ sources) before [] after all copies = absurd copies
all_copies p (source ∷ sources) before (s ∷ versions) after all copies =
    let parts = and_parts (p (list_at before source.version)) (list_all (λ (one : SnapshotVersion). p (list_at before one.version)) sources) all in
    and_from (p (list_at after s.version)) (list_all (λ (v : ℕ). p (list_at after v)) (versions_of versions)) (ap p copies.1 ∙ parts.0)
    (all_copies p sources before versions after parts.1 copies.2)

pub all_has : (p : ℕ → Bool) (numbers : List ℕ) → ((n : ℕ) → has numbers n ≡ true → p n ≡ true) → list_all p numbers ≡ true
all_has p [] h = refl
all_has p (v ∷ numbers) h =
    and_from (p v) (list_all p numbers) (h v (or_left (eqb v v) (has numbers v) (same_number v))) (all_has p numbers (λ n there. h n (or_right (eqb v n) (has numbers n) there)))

-- the numbers that are taken are none of those that were in use
pub taken_apart : (old numbers : List ℕ) (before after : VersionLists) → AreInUse numbers after → KeepsOthers [] before numbers after
    → list_all (λ (v : ℕ). is_some (before v)) old ≡ true → list_all (is_of_others old after) numbers ≡ true
taken_apart old numbers before after stands keeps used =
    all_has (is_of_others old after) numbers
    (λ n there.
    and_from (is_some (after n)) (not (has old n)) (used_at numbers after n stands.used there)
    (not_from_false (has old n) (unused_lacks old before n used (keeps.taken n refl there))))

-- ---- released

-- the numbers that were taken are given up
pub taken_away : (numbers : List ℕ) (before after : VersionLists) → KeepsOthers [] before numbers after → without_lists numbers after ≡ before
taken_away numbers before after keeps =
    same_lists (without_lists numbers after) before
    (λ n. cond_both (has numbers n) None (after n) (λ o. o ≡ before n) (λ there. sym (keeps.taken n refl there)) (λ lacks. keeps.others n refl lacks))

pub without_none : (lists : VersionLists) → without_lists [] lists ≡ lists
without_none lists = same_lists (without_lists [] lists) lists (λ n. refl)

pub without_first : (v : ℕ) (numbers : List ℕ) (lists : VersionLists) → without_lists numbers (without_list v lists) ≡ without_lists (v ∷ numbers) lists
without_first v numbers lists = same_lists (without_lists numbers (without_list v lists)) (without_lists (v ∷ numbers) lists)
    (λ n. elim (cases_Bool (eqb n v)) [
      | inl here ↦
          ap (cond (has numbers n) None) (cond-true (eqb n v) None (lists n) here)
          ∙ none_both (has numbers n)
          ∙ sym (cond-true (eqb v n || has numbers n) None (lists n) (or_left (eqb v n) (has numbers n) (subst (λ m. eqb v m ≡ true) (sym (eqb-true n v here)) (same_number v))))
      | inr there ↦
          ap (cond (has numbers n) None) (cond-false (eqb n v) None (lists n) there)
          ∙ ap (λ (b : Bool). cond (b || has numbers n) None (lists n)) (sym (turned n v there))
    ]) where
      none_both : (b : Bool) → cond {A = Option (List ItemState)} b None None ≡ None
      none_both true = refl
      none_both false = refl

-- one is released: the others stand
pub others_stand : (v : ℕ) (numbers : List ℕ) (lists : VersionLists) → AreInUse (v ∷ numbers) lists → AreInUse numbers (without_list v lists)
others_stand v numbers lists stands =
    let used = and_parts (is_some (lists v)) (list_all (λ (n : ℕ). is_some (lists n)) numbers) stands.used in
    let apart = and_parts (not (has numbers v)) (are_different numbers) stands.apart in
    record {
      used = used_by numbers lists (without_list v lists)
          (λ n there. cond-false (eqb n v) None (lists n) (false_from_ne_true (eqb n v) (λ same. clash (has numbers n) there (ap (has numbers) (eqb-true n v same) ∙ not-true (has numbers v) apart.0))))
          used.1;
      apart = apart.1;
    }

pub first_stands : (v : ℕ) (numbers : List ℕ) (lists : VersionLists) → AreInUse (v ∷ numbers) lists → IsSome (lists v)
first_stands v numbers lists stands = some_true (lists v) (and_parts (is_some (lists v)) (list_all (λ (n : ℕ). is_some (lists n)) numbers) stands.used).0

-- ---- the lists that are open

got : (lists : List OpenList) (at : ℕ) (list : OpenList) → slice_get lists at ≡ Some list → get_or lists at list ≡ list
got [] at list h = cc
got (x ∷ lists) zero list h = ap (λ (o : Option OpenList). unwrap_or o list) h
got (x ∷ lists) (suc at) list h = got lists at list h

-- the versions of the lists up to the next one
pub open_more : (clock : ℤ) (lists : List OpenList) (at : ℕ) (list : OpenList) → slice_get lists at ≡ Some list → at < length lists
    → with_open clock list (map source_of (open_ones clock (take at lists))) ≡ map source_of (open_ones clock (take (at + 1) lists))
open_more clock lists at list is within =
    by_test (is_open clock list)
    ∙ sym (map-append source_of front (filter (is_open clock) (list ∷ [])))
    ∙ ap (λ (xs : List OpenList). map source_of xs) (sym next)
  where
    front : List OpenList
    front = open_ones clock (take at lists)

    by_test : (b : Bool) → cond b (map source_of front ++ source_of list ∷ []) (map source_of front) ≡ map source_of front ++ map source_of (cond b (list ∷ []) [])
    by_test true = refl
    by_test false = sym (append-nil (map source_of front))

    next : open_ones clock (take (at + 1) lists) ≡ front ++ filter (is_open clock) (list ∷ [])
    next =
        ap (open_ones clock) (take_more lists at list within)
        ∙ filter-append (is_open clock) (take at lists) (get_or lists at list ∷ [])
        ∙ ap (λ (x : OpenList). front ++ filter (is_open clock) (x ∷ [])) (got lists at list is)

-- a list that is there is found
pub found_within : (lists : List OpenList) (at : ℕ) → slice_get lists at ≡ None → at < length lists → ⊥
found_within [] at h within = omega (arith, within)
found_within (x ∷ lists) zero h within = cc
found_within (x ∷ lists) (suc at) h within = found_within lists at h (omega (arith, within))

pub nothing_left : {X : Type 0} (l : List X) → length l ≡ 0 → l ≡ []
nothing_left [] h = refl
nothing_left (x ∷ xs) h = absurd (omega (arith, h))

-- a source that is not frozen yet is in use
pub next_used : (lists : VersionLists) (sources front : List SnapshotVersion) (source : SnapshotVersion) (rest : List SnapshotVersion) → sources ≡ front ++ source ∷ rest
    → are_in_use lists sources ≡ true → is_some (lists source.version) ≡ true
next_used lists sources front source rest cut used = here front (ap (are_in_use lists) (sym cut) ∙ used)
  where
    here : (xs : List SnapshotVersion) → are_in_use lists (xs ++ source ∷ rest) ≡ true → is_some (lists source.version) ≡ true
    here [] h = (and_parts (is_some (lists source.version)) (are_in_use lists rest) h).0
    here (x ∷ xs) h = here xs (and_parts (is_some (lists x.version)) (are_in_use lists (xs ++ source ∷ rest)) h).1

-- one more than there are open lists
pub many_sources : (repo : RepoFields) → length (sources_of repo) ≡ length (open_ones repo.clock repo.table.lists) + 1
many_sources repo =
    length-append (map source_of (open_ones repo.clock repo.table.lists)) (source_of_items repo.index.version ∷ [])
    ∙ ap (λ (n : ℕ). n + 1) (length-map (open_ones repo.clock repo.table.lists) source_of)

-- ---- released one after the other

-- those that are left stand, and all are gone when they are
pub record IsReleasing {V : Type 0} (g : Ghosts V) (all : List SnapshotVersion) (start : V) (left : List SnapshotVersion) (now : V) : Type 0 where
  pub stands : AreInUse (versions_of left) (g.lists now)
  pub released : without_lists (versions_of left) (g.lists now) ≡ without_lists (versions_of all) (g.lists start)
  pub spares : Spares g.room g.failures g.honest start now

pub releasing_next : {V : Type 0} (g : Ghosts V) (all : List SnapshotVersion) (start : V) (left : List SnapshotVersion) (now : V) (s : SnapshotVersion) (rest : List SnapshotVersion) (new : V)
    → IsReleasing g all start left now → left ≡ s ∷ rest → g.lists new ≡ without_list s.version (g.lists now) → Spares g.room g.failures g.honest now new → IsReleasing g all start rest new
releasing_next g all start left now s rest new so_far is gone spares =
    let stands : AreInUse (s.version ∷ versions_of rest) (g.lists now) = subst (λ (vs : List SnapshotVersion). AreInUse (versions_of vs) (g.lists now)) is so_far.stands in
    let room = so_far.spares.room in
    record {
      stands = subst (λ (lists : VersionLists). AreInUse (versions_of rest) lists) (sym gone) (others_stand s.version (versions_of rest) (g.lists now) stands);
      released =
          ap (without_lists (versions_of rest)) gone
          ∙ without_first s.version (versions_of rest) (g.lists now)
          ∙ ap (λ (vs : List SnapshotVersion). without_lists (versions_of vs) (g.lists now)) (sym is)
          ∙ so_far.released;
      spares = record { room = omega (arith, room, spares.room); count = spares.count ∙ so_far.spares.count; honesty = spares.honesty ∙ so_far.spares.honesty };
    }

pub releasing_ends : {V : Type 0} (g : Ghosts V) (all : List SnapshotVersion) (start : V) (left : List SnapshotVersion) (now : V) → IsReleasing g all start left now → left ≡ []
    → g.lists now ≡ without_lists (versions_of all) (g.lists start)
releasing_ends g all start left now so_far none =
    sym (without_none (g.lists now))
    ∙ ap (λ (vs : List SnapshotVersion). without_lists (versions_of vs) (g.lists now)) (sym none)
    ∙ so_far.released

-- ---- the version before the others

pub before_stands : (before : Option ℕ) (numbers : List ℕ) (lists : VersionLists) → AreInUse (with_before before numbers) lists → IfSome before (λ v. IsSome (lists v))
before_stands None numbers lists stands = tt
before_stands (Some v) numbers lists stands = first_stands v numbers lists stands

pub without_one : (v : ℕ) (lists : VersionLists) → without_list v lists ≡ without_lists (v ∷ []) lists
without_one v lists = sym (without_none (without_list v lists)) ∙ without_first v [] lists

pub rest_stands : (before : Option ℕ) (numbers : List ℕ) (lists : VersionLists) → AreInUse (with_before before numbers) lists → AreInUse numbers (without_lists (with_before before []) lists)
rest_stands None numbers lists stands = subst (AreInUse numbers) (sym (without_none lists)) stands
rest_stands (Some v) numbers lists stands = subst (AreInUse numbers) (without_one v lists) (others_stand v numbers lists stands)

pub without_both : (before : Option ℕ) (numbers : List ℕ) (lists : VersionLists) → without_lists numbers (without_lists (with_before before []) lists) ≡ without_lists (with_before before numbers) lists
without_both None numbers lists = ap (without_lists numbers) (without_none lists)
without_both (Some v) numbers lists = ap (without_lists numbers) (sym (without_one v lists)) ∙ without_first v numbers lists
