-- The snapshots of a host: how they are taken, what is left of them, and what others' calls leave of them.
use Rattle.std.proofs.Common.{◌≡◌, ◌∙◌, ◌≤◌, ◌<◌, ◌+◌, ◌-◌, ◌&&◌, ◌==◌, ◌⊎◌, Err, Ok, ℕ, ℤ, zero, suc, Bool, true, false, eqb, cond, length-append, inl, inr, List, [], ◌∷◌, ◌++◌, append-nil, append_assoc, arith, drop, get_or, length, map, take, slice_set, Option, None, Some, IsTrue, is_some, refl, sym, ap, subst}
use Rattle.std.specs.List.{AllZip, list_all, slice_get}
use Rattle.std.proofs.lemmas.Bool.{and_parts, cases_Bool, cases_lt, cond-false, eqb-true, leb-true, or_left, or_right}
use Rattle.std.proofs.lemmas.List.{drop_all, length-drop, length-take, map-append, take-append-le, take_more}
use Rattle.std.proofs.lemmas.List.Concat.{flat_map-append}
use Rattle.std.proofs.lemmas.List.Folds.{list_all-map}
use Rattle.std.specs.Prelude.{is_none, nat_le, slice_index_or}
use Rattle.std.proofs.lemmas.Option.{get_or_from_slice_get}
use Rattle.oai_item.specs.Item.{ItemState}
use Rattle.oai_item.specs.declared.faults.Fault.{Fault}
use Rattle.oai_item.specs.declared.faults.Fault.TheVariants.{NoMemory}
use Rattle.oai_catalogue.specs.Store.{AreInOrder, Spares, Spends, VersionLists, list_at}
use Rattle.oai_catalogue.specs.declared.versions.Versions.{Ghosts}
use Rattle.oai_lists.specs.OpenLists.{is_open, open_ones}
use Rattle.oai_lists.specs.declared.open_lists.OpenList.{OpenList}
use Rattle.oai_names.proofs.Lists.{all-filter}
use Rattle.oai_holdings.specs.Holdings.{NamedSet}
use Rattle.oai_repo.specs.Fields.{AreInUse, HasNumbersIn, KeepsOthers, Owns, RepoFields, has, numbers_of, state_of, versions_in}
use Rattle.oai_repo.specs.Saved.{SavedPartState, has_clock, has_named_set}
use Rattle.oai_repo.specs.SavedLists.{part_of_difference}
use Rattle.oai_repo.specs.State.{RepoState}
use Rattle.oai_repo.proofs.NeighbourLemmas.{held_where, stands_where}
use Rattle.oai_repo.proofs.NumberLemmas.{clash, kept_same, kept_twice, none_false, same_number, unused_lacks, used_at}
use Rattle.oai_replay.specs.Parts.{PartState, SavesMore}
use Rattle.oai_snapshots.specs.Batches.{HasHandedOutMore, HoldsSnapshot, LeavesSnapshot, has_nothing_left}
use Rattle.oai_snapshots.specs.Snapshots.{AreFrozen, HandsOut, IsSnapshot, IsSnapshotTaken, SnapshotFields, SnapshotPlace, differences_left, going, have_whole, items_before, list_parts, numbers_of_snapshot, parts_left, versions_left, versions_of, with_before, without_lists}
use Rattle.oai_snapshots.specs.declared.versions.SnapshotVersion.{SnapshotVersion}
use Rattle.oai_snapshots.proofs.SnapshotLemmas.{snapshot_taken, stored_whole}
use Rattle.oai_snapshots.proofs.TakingLemmas.{without_none}
use Rattle.oai_host.specs.HostSnapshots.{AreNoneOf, AreSnapshotsTaken, HasGrown, HasItsSets, HasSavedMore, HoldsSnapshots, HasChangedAt, LeavesSnapshots, SavesSome, calls_for, numbers_of_snapshots, parts_left_in, parts_of_each, parts_of_one, repos_left}
use Rattle.oai_host.specs.Hosts.{NamedPart, Repository}
use Rattle.oai_host.specs.NamedRepos.{AllHeld, AllStand, AreNamedRepos, repositories_of, repository_of}
use Rattle.oai_host.specs.Saved.{named_part, encoded_part}
use Rattle.oai_host.specs.Saving.{Takes, TakesNext}
use Rattle.oai_host.specs.Unsaved.{AreSavedBy}
use Rattle.oai_host.specs.declared.repositories.NamedRepo.{NamedRepo}
use Rattle.oai_host.proofs.NamedRepoLemmas.{held_at, stands_at, state_same}
use Rattle.oai_host.proofs.PlaceLemmas.{nothing_there, same_one}
use Rattle.oai_host.proofs.RestoreLemmas.{got_there}
use Rattle.oai_host.proofs.UnsavedLemmas.{named_readable, named_spelled, saved_more, saved_none}
use Rattle.oai_host.proofs.InUseLemmas.{AreSame, HaveNone, in_first, in_left, in_right, in_use_both, in_use_parts, kept_beside, kept_other, kept_others, kept_released, none_turned, released_both, released_stands, same_at, stands_same, taken_both, whole_both, whole_parts, whole_same}

-- ---- the numbers

numbers_last : (snapshots : List SnapshotFields) (s : SnapshotFields) → numbers_of_snapshots (snapshots ++ s ∷ []) ≡ numbers_of_snapshots snapshots ++ numbers_of_snapshot s
numbers_last snapshots s = flat_map-append numbers_of_snapshot snapshots (s ∷ []) ∙ ap (λ (ns : List ℕ). numbers_of_snapshots snapshots ++ ns) (append-nil (numbers_of_snapshot s))

has_before : (before : Option ℕ) (numbers : List ℕ) (n : ℕ) → has numbers n ≡ true → has (with_before before numbers) n ≡ true
has_before None numbers n there = there
has_before (Some v) numbers n there = or_right (eqb v n) (has numbers n) there

-- ---- taken one after the other

frozen_from : (lists : List OpenList) (v : ℕ) (before between : VersionLists) (versions : List SnapshotVersion) (after : VersionLists)
    → list_all (λ (list : OpenList). is_some (before list.version)) lists ≡ true → is_some (before v) ≡ true → ((n : ℕ) → is_some (before n) ≡ true → between n ≡ before n)
    → AreFrozen lists v between versions after → AreFrozen lists v before versions after
frozen_from [] v before between [] after used held same frozen = frozen
frozen_from (list ∷ lists) v before between [] after used held same frozen = frozen
frozen_from [] v before between (s ∷ versions) after used held same frozen = (frozen.0, frozen.1, frozen.2 ∙ same_at before between v (same v held))
frozen_from (list ∷ lists) v before between (s ∷ versions) after used held same frozen =
    let parts = and_parts (is_some (before list.version)) (list_all (λ (one : OpenList). is_some (before one.version)) lists) used in
    (frozen.0, frozen.1 ∙ same_at before between list.version (same list.version parts.0), frozen_from lists v before between versions after parts.1 held same frozen.2)

frozen_to : (lists : List OpenList) (v : ℕ) (before : VersionLists) (versions : List SnapshotVersion) (between after : VersionLists) → AreSame (versions_of versions) between after
    → AreFrozen lists v before versions between → AreFrozen lists v before versions after
frozen_to [] v before [] between after same frozen = frozen
frozen_to (list ∷ lists) v before [] between after same frozen = frozen
frozen_to [] v before (s ∷ versions) between after same frozen =
    (frozen.0, frozen.1, same_at between after s.version (same s.version (or_left (eqb s.version s.version) (has (versions_of versions) s.version) (same_number s.version))) ∙ frozen.2)
frozen_to (list ∷ lists) v before (s ∷ versions) between after same frozen = (
  frozen.0,
  same_at between after s.version (same s.version (or_left (eqb s.version s.version) (has (versions_of versions) s.version) (same_number s.version))) ∙ frozen.1,
  frozen_to lists v before versions between after (λ n there. same n (or_right (eqb s.version n) (has (versions_of versions) n) there)) frozen.2,
)

-- what a repository has was as it is when the first snapshot was taken
taken_from : (repo : RepoFields) (before between : VersionLists) (s : SnapshotFields) (after : VersionLists) → HasNumbersIn repo before → ((n : ℕ) → is_some (before n) ≡ true → between n ≡ before n)
    → IsSnapshotTaken repo between s after → IsSnapshotTaken repo before s after
taken_from repo before between s after stands same taken =
    let parts = and_parts (is_some (before repo.index.version)) (list_all (λ (v : ℕ). is_some (before v)) (versions_in repo.table)) stands.used in
    record {
      clock = taken.clock;
      next = taken.next;
      begun = taken.begun;
      sets = taken.sets;
      given = taken.given;
      first = taken.first;
      place = taken.place;
      frozen = frozen_from (open_ones repo.clock repo.table.lists) repo.index.version before between s.versions after
          (all-filter (λ (list : OpenList). is_some (before list.version)) (is_open repo.clock) repo.table.lists
          (sym (list_all-map (λ (v : ℕ). is_some (before v)) (λ (list : OpenList). list.version) repo.table.lists) ∙ parts.1))
          parts.0
          same
          taken.frozen;
    }

-- a snapshot stays as it is while others are taken
taken_to : (repo : RepoFields) (before : VersionLists) (s : SnapshotFields) (between after : VersionLists) → AreSame (numbers_of_snapshot s) between after
    → IsSnapshotTaken repo before s between → IsSnapshotTaken repo before s after
taken_to repo before s between after same taken = record {
  clock = taken.clock;
  next = taken.next;
  begun = taken.begun;
  sets = taken.sets;
  given = taken.given;
  first = taken.first;
  place = taken.place;
  frozen = frozen_to (open_ones repo.clock repo.table.lists) repo.index.version before s.versions between after (λ n there. same n (has_before s.before (versions_of s.versions) n there)) taken.frozen;
}

abbrev IsTakenOf : VersionLists → VersionLists → NamedRepo → SnapshotFields → Type 0
IsTakenOf before after one s = IsSnapshotTaken one.repo before s after

each_to : (before : VersionLists) (repos : List NamedRepo) (snapshots : List SnapshotFields) (between after : VersionLists) → AreSame (numbers_of_snapshots snapshots) between after
    → AllZip (IsTakenOf before between) repos snapshots → AllZip (IsTakenOf before after) repos snapshots
each_to before [] [] between after same each = tt
each_to before [] (s ∷ snapshots) between after same each = each
each_to before (one ∷ repos) [] between after same each = each
each_to before (one ∷ repos) (s ∷ snapshots) between after same each = (
  taken_to one.repo before s between after (λ n there. same n (in_left (numbers_of_snapshot s) (numbers_of_snapshots snapshots) n there)) each.0,
  each_to before repos snapshots between after (λ n there. same n (in_right (numbers_of_snapshot s) (numbers_of_snapshots snapshots) n there)) each.1,
)

zip_last : {A B : Type 0} (R : A → B → Type 0) (xs : List A) (ys : List B) (x : A) (y : B) → AllZip R xs ys → R x y → AllZip R (xs ++ x ∷ []) (ys ++ y ∷ [])
zip_last R [] [] x y all one = (one, tt)
zip_last R [] (b ∷ ys) x y all one = absurd all
zip_last R (a ∷ xs) [] x y all one = absurd all
zip_last R (a ∷ xs) (b ∷ ys) x y all one = (all.0, zip_last R xs ys x y all.1 one)

zip_each : {A B : Type 0} (P Q : A → B → Type 0) (xs : List A) (ys : List B) → ((x : A) (y : B) → P x y → Q x y) → AllZip P xs ys → AllZip Q xs ys
zip_each P Q [] [] h all = tt
zip_each P Q [] (y ∷ ys) h all = all
zip_each P Q (x ∷ xs) [] h all = all
zip_each P Q (x ∷ xs) (y ∷ ys) h all = (h x y all.0, zip_each P Q xs ys h all.1)

zip_long : {A B : Type 0} (R : A → B → Type 0) (xs : List A) (ys : List B) → AllZip R xs ys → length xs ≡ length ys
zip_long R [] [] all = refl
zip_long R [] (y ∷ ys) all = absurd all
zip_long R (x ∷ xs) [] all = absurd all
zip_long R (x ∷ xs) (y ∷ ys) all = ap suc (zip_long R xs ys all.1)

pub none_taken : (honest : Bool) (lists : VersionLists) → AreSnapshotsTaken honest [] lists [] lists
none_taken honest lists = record { each = tt; stands = record { used = refl; apart = refl }; whole = λ _. refl; others = kept_same [] lists }

pub one_taken : (honest : Bool) (front : List NamedRepo) (one : NamedRepo) (before : VersionLists) (snapshots : List SnapshotFields) (between : VersionLists) (s : SnapshotFields) (after : VersionLists)
    → HasNumbersIn one.repo before → AreSnapshotsTaken honest front before snapshots between → IsSnapshotTaken one.repo between s after → HoldsSnapshot honest s after
    → KeepsOthers [] between (numbers_of_snapshot s) after → AreSnapshotsTaken honest (front ++ one ∷ []) before (snapshots ++ s ∷ []) after
one_taken honest front one before snapshots between s after owned taken is holds keeps =
    let xs : List ℕ = numbers_of_snapshots snapshots in
    let ys : List ℕ = numbers_of_snapshot s in
    let kept : (n : ℕ) → has xs n ≡ true → (has ys n ≡ false) × (after n ≡ between n) = kept_others [] ys xs between after keeps taken.stands (λ n there. refl) in
    let same : AreSame xs between after = λ n there. (kept n there).1 in
    let all : numbers_of_snapshots (snapshots ++ s ∷ []) ≡ xs ++ ys = numbers_last snapshots s in
    record {
      each = zip_last (IsTakenOf before after) front snapshots one s (each_to before front snapshots between after same taken.each)
          (taken_from one.repo before between s after owned (λ n used. (kept_other [] xs before between n taken.others refl used).1) is);
      stands = subst (λ (ns : List ℕ). AreInUse ns after) (sym all) (in_use_both xs ys after (stands_same xs between after same taken.stands) holds.stands (λ n there. (kept n there).0));
      whole = λ sure. ap (λ (ns : List ℕ). have_whole ns after) all ∙ whole_both xs ys after (whole_same xs between after same (taken.whole sure)) (holds.whole sure);
      others = subst (λ (ns : List ℕ). KeepsOthers [] before ns after) (sym all) (taken_both xs ys before between after taken.others taken.stands keeps);
    }

apart_taken : (repos : List NamedRepo) (before : VersionLists) (numbers : List ℕ) → AllStand repos before → ((n : ℕ) → has numbers n ≡ true → before n ≡ None) → AreNoneOf numbers repos
apart_taken [] before numbers stand free = tt
apart_taken (one ∷ repos) before numbers stand free = ((λ n there. unused_lacks (numbers_of one.repo) before n stand.0.used (free n there)), apart_taken repos before numbers stand.1 free)

at_most : (n m : ℕ) → n ≡ m → n ≤ m
at_most n m same = omega (arith, same)

no_more : (n : ℕ) → n - n ≡ 0
no_more n = omega arith

pub holds_taken : (honest : Bool) (repos : List NamedRepo) (before : VersionLists) (snapshots : List SnapshotFields) (after : VersionLists) → AllStand repos before
    → AreSnapshotsTaken honest repos before snapshots after → HoldsSnapshots honest repos snapshots after
holds_taken honest repos before snapshots after stand taken =
    let long : length repos ≡ length snapshots = zip_long (IsTakenOf before after) repos snapshots taken.each in
    let all : repos_left repos snapshots ≡ repos = ap (λ (n : ℕ). drop (n - length snapshots) repos) long ∙ ap (λ (n : ℕ). drop n repos) (no_more (length snapshots)) in
    let each : AllZip HasItsSets repos snapshots = zip_each (IsTakenOf before after) HasItsSets repos snapshots (λ one s is. at_most s.sets (length one.repo.sets) is.sets) taken.each in
    record {
      stands = taken.stands;
      whole = taken.whole;
      apart = apart_taken repos before (numbers_of_snapshots snapshots) stand (λ n there. taken.others.taken n refl there);
      sets = subst (λ (rs : List NamedRepo). AllZip HasItsSets rs snapshots) (sym all) each;
    }

-- ---- the first that is left

from_there : {A : Type 0} (xs : List A) (k : ℕ) → k < length xs → (x : A) × (slice_get xs k ≡ Some x) × (drop k xs ≡ x ∷ drop (suc k) xs)
from_there [] k within = absurd (omega (arith, within))
from_there (x ∷ xs) zero within = (x, refl, refl)
from_there (x ∷ xs) (suc k) within = from_there xs k (omega (arith, within))

-- the repository of the first snapshot that is left, and those of the others
pub record IsFirstLeft (repos : List NamedRepo) (others : List SnapshotFields) : Type 0 where
  pub one : NamedRepo
  pub there : slice_get repos (length repos - suc (length others)) ≡ Some one
  pub left : drop (length repos - suc (length others)) repos ≡ one ∷ repos_left repos others

pub first_left : (repos : List NamedRepo) (s : SnapshotFields) (others : List SnapshotFields) → AllZip HasItsSets (repos_left repos (s ∷ others)) (s ∷ others) → IsFirstLeft repos others
first_left repos s others each =
    let k : ℕ = length repos - suc (length others) in
    let many : length (drop k repos) ≡ suc (length others) = zip_long HasItsSets (drop k repos) (s ∷ others) each in
    let short : length (drop k repos) ≡ length repos - k = length-drop k repos in
    let within : k < length repos = omega (arith, many, short) in
    let next : suc k ≡ length repos - length others = omega (arith, many, short) in
    let found = from_there repos k within in
    record {
      one = found.0;
      there = found.1;
      left = found.2 ∙ ap (λ (n : ℕ). found.0 ∷ drop n repos) next;
    }

-- no more snapshots are left than there are repositories
pub few_left : (repos : List NamedRepo) (snapshots : List SnapshotFields) → AllZip HasItsSets (repos_left repos snapshots) snapshots → length snapshots ≤ length repos
few_left repos snapshots each =
    let many : length (repos_left repos snapshots) ≡ length snapshots = zip_long HasItsSets (repos_left repos snapshots) snapshots each in
    let short : length (repos_left repos snapshots) ≡ length repos - (length repos - length snapshots) = length-drop (length repos - length snapshots) repos in
    omega (arith, many, short)

-- ---- what is left of a snapshot

versions_where : (items : List ItemState) (place : SnapshotPlace) (versions : List SnapshotVersion) (before after : VersionLists) → AreSame (versions_of versions) before after
    → versions_left after items place versions ≡ versions_left before items place versions
versions_where items place [] before after same = refl
versions_where items place (s ∷ versions) before after same =
    let here : list_at after s.version ≡ list_at before s.version = same_at before after s.version (same s.version (or_left (eqb s.version s.version) (has (versions_of versions) s.version) (same_number s.version))) in
    ap (λ (xs : List ItemState). map part_of_difference (differences_left place items xs) ++ (list_parts s.list ++ versions_left after xs (going None) versions)) here
    ∙ ap (λ (ps : List SavedPartState). map part_of_difference (differences_left place items (list_at before s.version)) ++ (list_parts s.list ++ ps))
    (versions_where (list_at before s.version) (going None) versions before after (λ n there. same n (or_right (eqb s.version n) (has (versions_of versions) n) there)))

changes_where : (first : Option ℕ) (place : SnapshotPlace) (versions : List SnapshotVersion) (before after : VersionLists) → AreSame (with_before first (versions_of versions)) before after
    → versions_left after (items_before after first) place versions ≡ versions_left before (items_before before first) place versions
changes_where None place versions before after same = versions_where [] place versions before after same
changes_where (Some v) place versions before after same =
    ap (λ (xs : List ItemState). versions_left after xs place versions) (same_at before after v (same v (or_left (eqb v v) (has (versions_of versions) v) (same_number v))))
    ∙ versions_where (list_at before v) place versions before after (λ n there. same n (or_right (eqb v n) (has (versions_of versions) n) there))

-- it is the same where its versions are
left_where : (sets : List NamedSet) (s : SnapshotFields) (before after : VersionLists) → AreSame (numbers_of_snapshot s) before after → parts_left sets after s ≡ parts_left sets before s
left_where sets s before after same =
    ap (λ (ps : List SavedPartState). (cond s.begun [] (has_clock s.clock s.next ∷ [])) ++ (map has_named_set (drop s.given (take s.sets sets)) ++ ps))
    (changes_where s.before s.place s.versions before after same)

-- and where sets are added
left_more : (sets more : List NamedSet) (lists : VersionLists) (s : SnapshotFields) → s.sets ≤ length sets → parts_left (sets ++ more) lists s ≡ parts_left sets lists s
left_more sets more lists s few =
    ap (λ (front : List NamedSet). (cond s.begun [] (has_clock s.clock s.next ∷ [])) ++ (map has_named_set (drop s.given front) ++ versions_left lists (items_before lists s.before) s.place s.versions))
    (take-append-le s.sets sets more few)

each_where : (repos : List NamedRepo) (snapshots : List SnapshotFields) (before after : VersionLists) → AreSame (numbers_of_snapshots snapshots) before after
    → parts_of_each after repos snapshots ≡ parts_of_each before repos snapshots
each_where [] snapshots before after same = refl
each_where (one ∷ repos) [] before after same = refl
each_where (one ∷ repos) (s ∷ snapshots) before after same =
    ap (λ (ps : List SavedPartState). map (named_part one.name s.clock) ps ++ parts_of_each after repos snapshots)
    (left_where one.repo.sets s before after (λ n there. same n (in_left (numbers_of_snapshot s) (numbers_of_snapshots snapshots) n there)))
    ∙ ap (λ (ps : List NamedPart). parts_of_one before one s ++ ps)
    (each_where repos snapshots before after (λ n there. same n (in_right (numbers_of_snapshot s) (numbers_of_snapshots snapshots) n there)))

no_versions : (versions : List SnapshotVersion) → (length versions == 0) ≡ true → versions ≡ []
no_versions [] h = refl
no_versions (s ∷ versions) h = absurd (let some = eqb-true (length (s ∷ versions)) 0 h in omega (arith, some))

last_none : {A : Type 0} (xs ys : List A) → xs ++ ys ≡ [] → ys ≡ []
last_none [] ys h = h
last_none (x ∷ xs) ys h = cc

pub no_parts : (sets : List NamedSet) (lists : VersionLists) (s : SnapshotFields) → has_nothing_left s ≡ true → parts_left sets lists s ≡ []
no_parts sets lists s none =
    let parts = and_parts (s.begun && nat_le s.sets s.given) (length s.versions == 0) none in
    let both = and_parts s.begun (nat_le s.sets s.given) parts.0 in
    let all : s.sets ≤ s.given = leb-true s.sets s.given both.1 in
    let changes : List SavedPartState = versions_left lists (items_before lists s.before) s.place s.versions in
    ap (λ (b : Bool). (cond b [] (has_clock s.clock s.next ∷ [])) ++ (map has_named_set (drop s.given (take s.sets sets)) ++ changes)) both.0
    ∙ ap (λ (xs : List NamedSet). map has_named_set xs ++ changes) (drop_all s.given (take s.sets sets) (let short = length-take s.sets sets in omega (arith, short, all)))
    ∙ ap (λ (vs : List SnapshotVersion). versions_left lists (items_before lists s.before) s.place vs) (no_versions s.versions parts.1)

-- ---- a batch of the first one is passed

none_fewer : (repos : List NamedRepo) (xs ys : List ℕ) → AreNoneOf xs repos → ((n : ℕ) → has ys n ≡ true → has xs n ≡ true) → AreNoneOf ys repos
none_fewer [] xs ys none fewer = tt
none_fewer (one ∷ repos) xs ys none fewer = ((λ n there. none.0 n (fewer n there)), none_fewer repos xs ys none.1 fewer)

zip_first : {A B : Type 0} (R : A → B → Type 0) (xs : List A) (y z : B) (ys : List B) → ((x : A) → R x y → R x z) → AllZip R xs (y ∷ ys) → AllZip R xs (z ∷ ys)
zip_first R [] y z ys h all = absurd all
zip_first R (x ∷ xs) y z ys h all = (h x all.0, all.1)

-- a number that it still has is one that it had
own_kept : (honest : Bool) (s : SnapshotFields) (before : VersionLists) (t : SnapshotFields) (after : VersionLists) → LeavesSnapshot honest s before t after
    → (n : ℕ) → has (numbers_of_snapshot t) n ≡ true → has (numbers_of_snapshot s) n ≡ true
own_kept honest s before t after leaves n there = elim (cases_Bool (has (numbers_of_snapshot s) n)) [
  | inl was ↦ was
  | inr lacks ↦
      let used : is_some (before n) ≡ true = ap is_some (sym (leaves.kept n there)) ∙ used_at (numbers_of_snapshot t) after n leaves.holds.stands.used there in
      clash (is_some (before n)) used (none_false (before n) (leaves.others.taken n lacks there))
]

pub first_holds : (honest : Bool) (repos : List NamedRepo) (s : SnapshotFields) (others : List SnapshotFields) (lists : VersionLists) → HoldsSnapshots honest repos (s ∷ others) lists → HoldsSnapshot honest s lists
first_holds honest repos s others lists held = record {
  stands = (in_use_parts (numbers_of_snapshot s) (numbers_of_snapshots others) lists held.stands).first;
  whole = λ sure. (whole_parts (numbers_of_snapshot s) (numbers_of_snapshots others) lists (held.whole sure)).0;
}

-- the lists of the other snapshots stay
pub others_same : (honest : Bool) (repos : List NamedRepo) (s : SnapshotFields) (others : List SnapshotFields) (before : VersionLists) (t : SnapshotFields) (after : VersionLists)
    → HoldsSnapshots honest repos (s ∷ others) before → LeavesSnapshot honest s before t after
    → (n : ℕ) → has (numbers_of_snapshots others) n ≡ true → (has (numbers_of_snapshot t) n ≡ false) × (after n ≡ before n)
others_same honest repos s others before t after held leaves =
    let parts = in_use_parts (numbers_of_snapshot s) (numbers_of_snapshots others) before held.stands in
    kept_others (numbers_of_snapshot s) (numbers_of_snapshot t) (numbers_of_snapshots others) before after leaves.others parts.second (none_turned (numbers_of_snapshot s) (numbers_of_snapshots others) parts.apart)

pub more_left : (honest : Bool) (repos : List NamedRepo) (s : SnapshotFields) (others : List SnapshotFields) (before : VersionLists) (t : SnapshotFields) (after : VersionLists)
    → HoldsSnapshots honest repos (s ∷ others) before → LeavesSnapshot honest s before t after → LeavesSnapshots honest repos (s ∷ others) before (t ∷ others) after
more_left honest repos s others before t after held leaves =
    let xs : List ℕ = numbers_of_snapshot s in
    let ts : List ℕ = numbers_of_snapshot t in
    let zs : List ℕ = numbers_of_snapshots others in
    let parts = in_use_parts xs zs before held.stands in
    let kept = others_same honest repos s others before t after held leaves in
    let same : AreSame zs before after = λ n there. (kept n there).1 in
    record {
      holds = record {
        stands = in_use_both ts zs after leaves.holds.stands (stands_same zs before after same parts.second) (none_turned zs ts (λ n there. (kept n there).0));
        whole = λ sure. whole_both ts zs after (leaves.holds.whole sure) (whole_same zs before after same (whole_parts xs zs before (held.whole sure)).1);
        apart = none_fewer repos (xs ++ zs) (ts ++ zs) held.apart
            (λ n there. elim (cases_Bool (has zs n)) [
              | inl of_others ↦ in_right xs zs n of_others
              | inr lacks ↦ in_left xs zs n (own_kept honest s before t after leaves n (in_first ts zs n there lacks))
            ]);
        sets = zip_first HasItsSets (repos_left repos (s ∷ others)) s t others (λ one few. subst (λ (n : ℕ). n ≤ length one.repo.sets) (sym leaves.sets) few) held.sets;
      };
      others = kept_beside xs ts zs before after leaves.others;
    }

pub more_saved : (repos : List NamedRepo) (s : SnapshotFields) (others : List SnapshotFields) (before : VersionLists) (t : SnapshotFields) (after : VersionLists) (first : IsFirstLeft repos others)
    (some : List SavedPartState) → HandsOut first.one.repo.sets before s some t → t.clock ≡ s.clock → AreSame (numbers_of_snapshot t) before after → AreSame (numbers_of_snapshots others) before after
    → parts_left_in repos before (s ∷ others) ≡ map (named_part first.one.name s.clock) some ++ parts_left_in repos after (t ∷ others)
more_saved repos s others before t after first some handed clock own same =
    let one : NamedRepo = first.one in
    let named : SavedPartState → NamedPart = named_part one.name s.clock in
    let rest : List NamedPart = parts_of_each before (repos_left repos others) others in
    let now : List SavedPartState = parts_left one.repo.sets before t in
    ap (λ (rs : List NamedRepo). parts_of_each before rs (s ∷ others)) first.left
    ∙ ap (λ (ps : List SavedPartState). map named ps ++ rest) handed
    ∙ ap (λ (ps : List NamedPart). ps ++ rest) (map-append named some now)
    ∙ append_assoc (map named some) (map named now) rest
    ∙ ap (λ (ps : List SavedPartState). map named some ++ (map named ps ++ rest)) (sym (left_where one.repo.sets t before after own))
    ∙ ap (λ (ps : List NamedPart). map named some ++ (map named (parts_left one.repo.sets after t) ++ ps)) (sym (each_where (repos_left repos others) others before after same))
    ∙ ap (λ (k : ℤ). map named some ++ (map (named_part one.name k) (parts_left one.repo.sets after t) ++ parts_of_each after (repos_left repos others) others)) (sym clock)
    ∙ ap (λ (rs : List NamedRepo). map named some ++ parts_of_each after rs (t ∷ others)) (sym first.left)

-- ---- the first one is released

released_same : (xs zs : List ℕ) (before after : VersionLists) → HaveNone xs zs → after ≡ without_lists xs before → AreSame zs before after
released_same xs zs before after apart is n there = ap (λ (lists : VersionLists). lists n) is ∙ cond-false (has xs n) None (before n) (none_turned xs zs apart n there)

pub first_released : (honest : Bool) (repos : List NamedRepo) (s : SnapshotFields) (others : List SnapshotFields) (before after : VersionLists) → HoldsSnapshots honest repos (s ∷ others) before
    → after ≡ without_lists (numbers_of_snapshot s) before → LeavesSnapshots honest repos (s ∷ others) before others after
first_released honest repos s others before after held is =
    let xs : List ℕ = numbers_of_snapshot s in
    let zs : List ℕ = numbers_of_snapshots others in
    let parts = in_use_parts xs zs before held.stands in
    let same : AreSame zs before after = released_same xs zs before after parts.apart is in
    let first = first_left repos s others held.sets in
    let sets : AllZip HasItsSets (first.one ∷ repos_left repos others) (s ∷ others) = subst (λ (rs : List NamedRepo). AllZip HasItsSets rs (s ∷ others)) first.left held.sets in
    record {
      holds = record {
        stands = stands_same zs before after same parts.second;
        whole = λ sure. whole_same zs before after same (whole_parts xs zs before (held.whole sure)).1;
        apart = none_fewer repos (xs ++ zs) zs held.apart (λ n there. in_right xs zs n there);
        sets = sets.1;
      };
      others = kept_beside xs [] zs before after (subst (λ (lists : VersionLists). KeepsOthers xs before [] lists) (sym is) (kept_released xs before));
    }

pub released_saved : (honest : Bool) (repos : List NamedRepo) (s : SnapshotFields) (others : List SnapshotFields) (before after : VersionLists) (first : IsFirstLeft repos others) → HoldsSnapshots honest repos (s ∷ others) before
    → after ≡ without_lists (numbers_of_snapshot s) before → parts_left first.one.repo.sets before s ≡ [] → parts_left_in repos before (s ∷ others) ≡ parts_left_in repos after others
released_saved honest repos s others before after first held is none =
    let parts = in_use_parts (numbers_of_snapshot s) (numbers_of_snapshots others) before held.stands in
    ap (λ (rs : List NamedRepo). parts_of_each before rs (s ∷ others)) first.left
    ∙ ap (λ (ps : List SavedPartState). map (named_part first.one.name s.clock) ps ++ parts_of_each before (repos_left repos others) others) none
    ∙ sym (each_where (repos_left repos others) others before after (released_same (numbers_of_snapshot s) (numbers_of_snapshots others) before after parts.apart is))

pub left_twice : (honest : Bool) (repos : List NamedRepo) (old : List SnapshotFields) (before : VersionLists) (mid : List SnapshotFields) (between : VersionLists) (new : List SnapshotFields) (after : VersionLists)
    → LeavesSnapshots honest repos old before mid between → LeavesSnapshots honest repos mid between new after → LeavesSnapshots honest repos old before new after
left_twice honest repos old before mid between new after first second = record {
  holds = second.holds;
  others = kept_twice (numbers_of_snapshots old) (numbers_of_snapshots mid) (numbers_of_snapshots new) before between after first.others second.others;
}

-- ---- the first of a queue

pub some_there : (n m : ℕ) → (n == 0) ≡ false → n ≡ m → 0 < m
some_there zero m none same = clash true refl none
some_there (suc n) m none same = omega (arith, same)

pub record IsAtFront (items was : List SnapshotFields) (s : SnapshotFields) : Type 0 where
  pub others : List SnapshotFields
  pub split : was ≡ s ∷ others
  pub set : (t : SnapshotFields) → slice_set items 0 t ≡ t ∷ others

pub at_front : (items was : List SnapshotFields) (s : SnapshotFields) → items ≡ was → 0 < length items → s ≡ slice_index_or items 0 s → IsAtFront items was s
at_front [] was s same some is = absurd (omega (arith, some))
at_front (x ∷ items) was s same some is = record { others = items; split = sym same ∙ ap (λ (y : SnapshotFields). y ∷ items) (sym is); set = λ t. refl }

front_held : (honest : Bool) (repos : List NamedRepo) (items was : List SnapshotFields) (s : SnapshotFields) (before : VersionLists) (front : IsAtFront items was s) → HoldsSnapshots honest repos was before
    → HoldsSnapshots honest repos (s ∷ front.others) before
front_held honest repos items was s before front held = subst (λ (xs : List SnapshotFields). HoldsSnapshots honest repos xs before) front.split held

pub front_holds : (honest : Bool) (repos : List NamedRepo) (items was : List SnapshotFields) (s : SnapshotFields) (before : VersionLists) → IsAtFront items was s → HoldsSnapshots honest repos was before → HoldsSnapshot honest s before
front_holds honest repos items was s before front held = first_holds honest repos s front.others before (front_held honest repos items was s before front held)

pub front_left : (honest : Bool) (repos : List NamedRepo) (items was : List SnapshotFields) (s : SnapshotFields) (before : VersionLists) → IsAtFront items was s → HoldsSnapshots honest repos was before
    → (t : SnapshotFields) (after : VersionLists) → LeavesSnapshot honest s before t after → LeavesSnapshots honest repos was before (slice_set items 0 t) after
front_left honest repos items was s before front held t after leaves =
    subst (λ (new : List SnapshotFields). LeavesSnapshots honest repos was before new after) (sym (front.set t))
    (subst (λ (old : List SnapshotFields). LeavesSnapshots honest repos old before (t ∷ front.others) after) (sym front.split)
    (more_left honest repos s front.others before t after (front_held honest repos items was s before front held) leaves))

pub front_released : (honest : Bool) (repos : List NamedRepo) (items was : List SnapshotFields) (s : SnapshotFields) (before : VersionLists) (front : IsAtFront items was s) → HoldsSnapshots honest repos was before
    → (t : SnapshotFields) (between : VersionLists) (new : List SnapshotFields) (after : VersionLists) → LeavesSnapshot honest s before t between
    → new ≡ front.others → after ≡ without_lists (numbers_of_snapshot t) between → LeavesSnapshots honest repos was before new after
front_released honest repos items was s before front held t between new after leaves is released =
    let first = more_left honest repos s front.others before t between (front_held honest repos items was s before front held) leaves in
    subst (λ (xs : List SnapshotFields). LeavesSnapshots honest repos was before xs after) (sym is)
    (subst (λ (old : List SnapshotFields). LeavesSnapshots honest repos old before front.others after) (sym front.split)
    (left_twice honest repos (s ∷ front.others) before (t ∷ front.others) between front.others after first (first_released honest repos t front.others between after first.holds released)))

pub front_further : (items was : List SnapshotFields) (s : SnapshotFields) → IsAtFront items was s → (t : SnapshotFields) → HasHandedOutMore s t → HasSavedMore was (slice_set items 0 t)
front_further items was s front t more =
    subst (λ (new : List SnapshotFields). HasSavedMore was new) (sym (front.set t))
    (subst (λ (old : List SnapshotFields). HasSavedMore old (t ∷ front.others)) (sym front.split) (inr (t, refl, more)))

pub front_ends : (items was : List SnapshotFields) (s : SnapshotFields) (front : IsAtFront items was s) (new : List SnapshotFields) → new ≡ front.others → HasSavedMore was new
front_ends items was s front new is = subst (λ (old : List SnapshotFields). HasSavedMore old new) (sym front.split) (inl is)

-- the repository at the place is the first that is left
front_one : (repos : List NamedRepo) (items was : List SnapshotFields) (s : SnapshotFields) (front : IsAtFront items was s) (first : IsFirstLeft repos front.others) (one : NamedRepo) (k : ℕ)
    → k ≡ length repos - length was → one ≡ get_or repos k one → one ≡ first.one
front_one repos items was s front first one k at is =
    is
    ∙ ap (λ (n : ℕ). get_or repos n one) (at ∙ ap (λ (xs : List SnapshotFields). length repos - length xs) front.split)
    ∙ get_or_from_slice_get repos (length repos - suc (length front.others)) first.one one first.there

-- what was handed out of the first one, and what is left
record HasHanded {S : Type 0} (has : S → List PartState → Type 0) (repos : List NamedRepo) (was : List SnapshotFields) (before : VersionLists) (sink : S) (new : List SnapshotFields) (after : VersionLists) (took : S) (others : List SnapshotFields) (s t : SnapshotFields) : Type 0 where
  saved : SavesSome has repos was before sink new after took
  first : IsFirstLeft repos others
  some : List SavedPartState
  handed : HandsOut first.one.repo.sets before s some t

front_handed : {S : Type 0} (has : S → List PartState → Type 0) (honest : Bool) (repos : List NamedRepo) (items was : List SnapshotFields) (s : SnapshotFields) (before : VersionLists) (front : IsAtFront items was s)
    → HoldsSnapshots honest repos was before → (sink took : S) (one : NamedRepo) (k : ℕ) → k ≡ length repos - length was → one ≡ get_or repos k one → (t : SnapshotFields) (after : VersionLists)
    → LeavesSnapshot honest s before t after → TakesNext has one.name s.clock one.repo.sets before s sink t took
    → HasHanded has repos was before sink (t ∷ front.others) after took front.others s t
front_handed has honest repos items was s before front held sink took one k at is t after leaves next =
    let own = front_held honest repos items was s before front held in
    let first : IsFirstLeft repos front.others = first_left repos s front.others own.sets in
    let same : one ≡ first.one = front_one repos items was s front first one k at is in
    let passed : TakesNext has first.one.name s.clock first.one.repo.sets before s sink t took = subst (λ (o : NamedRepo). TakesNext has o.name s.clock o.repo.sets before s sink t took) same next in
    record {
      saved = record {
        some = map (named_part first.one.name s.clock) passed.some;
        handed =
            ap (λ (xs : List SnapshotFields). parts_left_in repos before xs) front.split
            ∙ more_saved repos s front.others before t after first passed.some passed.handed leaves.clock leaves.kept (λ n there. (others_same honest repos s front.others before t after own leaves n there).1);
        taken = subst (λ (ps : List PartState). Takes has ps sink took) (sym (named_spelled first.one.name s.clock passed.some)) passed.taken.taken;
        readable = named_readable first.one.name s.clock passed.some passed.taken.readable;
      };
      first = first;
      some = passed.some;
      handed = passed.handed;
    }

pub front_saved : {S : Type 0} (has : S → List PartState → Type 0) (honest : Bool) (repos : List NamedRepo) (items was : List SnapshotFields) (s : SnapshotFields) (before : VersionLists) (front : IsAtFront items was s)
    → HoldsSnapshots honest repos was before → (sink took : S) (one : NamedRepo) (k : ℕ) → k ≡ length repos - length was → one ≡ get_or repos k one → (t : SnapshotFields) (after : VersionLists)
    → LeavesSnapshot honest s before t after → TakesNext has one.name s.clock one.repo.sets before s sink t took
    → SavesSome has repos was before sink (slice_set items 0 t) after took
front_saved has honest repos items was s before front held sink took one k at is t after leaves next =
    subst (λ (new : List SnapshotFields). SavesSome has repos was before sink new after took) (sym (front.set t))
    (front_handed has honest repos items was s before front held sink took one k at is t after leaves next).saved

-- nothing was left of it, and it is released
pub front_ended : {S : Type 0} (has : S → List PartState → Type 0) (honest : Bool) (repos : List NamedRepo) (items was : List SnapshotFields) (s : SnapshotFields) (before : VersionLists) (front : IsAtFront items was s)
    → HoldsSnapshots honest repos was before → (sink took : S) (one : NamedRepo) (k : ℕ) → k ≡ length repos - length was → one ≡ get_or repos k one → (t : SnapshotFields) (after : VersionLists)
    → LeavesSnapshot honest s before t after → TakesNext has one.name s.clock one.repo.sets before s sink t took
    → (new : List SnapshotFields) (later : VersionLists) → has_nothing_left s ≡ true → new ≡ front.others → later ≡ without_lists (numbers_of_snapshot t) after
    → SavesSome has repos was before sink new later took
front_ended has honest repos items was s before front held sink took one k at is t after leaves next new later none new_is released =
    let own = front_held honest repos items was s before front held in
    let left = more_left honest repos s front.others before t after own leaves in
    let passed = front_handed has honest repos items was s before front held sink took one k at is t after leaves next in
    let own_sets : List NamedSet = passed.first.one.repo.sets in
    let nothing : parts_left own_sets after t ≡ [] =
    left_where own_sets t before after leaves.kept
    ∙ last_none passed.some (parts_left own_sets before t) (sym passed.handed ∙ no_parts own_sets before s none)
    in
    record {
      some = passed.saved.some;
      handed =
          passed.saved.handed
          ∙ ap (λ (ps : List NamedPart). passed.saved.some ++ ps) (released_saved honest repos t front.others after later passed.first left.holds released nothing)
          ∙ ap (λ (xs : List SnapshotFields). passed.saved.some ++ parts_left_in repos later xs) (sym new_is);
      taken = passed.saved.taken;
      readable = passed.saved.readable;
    }

-- ---- released one after the other

-- those that are left stand, and all are gone when they are
pub record IsReleasing {V : Type 0} (g : Ghosts V) (all : List SnapshotFields) (start : V) (left : List SnapshotFields) (now : V) : Type 0 where
  pub stands : AreInUse (numbers_of_snapshots left) (g.lists now)
  pub released : without_lists (numbers_of_snapshots left) (g.lists now) ≡ without_lists (numbers_of_snapshots all) (g.lists start)
  pub spares : Spares g.room g.failures g.honest start now

pub releasing_next : {V : Type 0} (g : Ghosts V) (all : List SnapshotFields) (start : V) (left : List SnapshotFields) (now : V) (s : SnapshotFields) (rest : List SnapshotFields) (new : V)
    → IsReleasing g all start left now → left ≡ s ∷ rest → g.lists new ≡ without_lists (numbers_of_snapshot s) (g.lists now) → Spares g.room g.failures g.honest now new → IsReleasing g all start rest new
releasing_next g all start left now s rest new so_far is gone spares =
    let xs : List ℕ = numbers_of_snapshot s in
    let stands : AreInUse (xs ++ numbers_of_snapshots rest) (g.lists now) = subst (λ (all : List SnapshotFields). AreInUse (numbers_of_snapshots all) (g.lists now)) is so_far.stands in
    let room = so_far.spares.room in
    record {
      stands = subst (λ (lists : VersionLists). AreInUse (numbers_of_snapshots rest) lists) (sym gone) (released_stands xs (numbers_of_snapshots rest) (g.lists now) stands);
      released =
          ap (without_lists (numbers_of_snapshots rest)) gone
          ∙ released_both xs (numbers_of_snapshots rest) (g.lists now)
          ∙ ap (λ (all : List SnapshotFields). without_lists (numbers_of_snapshots all) (g.lists now)) (sym is)
          ∙ so_far.released;
      spares = record { room = omega (arith, room, spares.room); count = spares.count ∙ so_far.spares.count; honesty = spares.honesty ∙ so_far.spares.honesty };
    }

pub releasing_ends : {V : Type 0} (g : Ghosts V) (all : List SnapshotFields) (start : V) (left : List SnapshotFields) (now : V) → IsReleasing g all start left now → left ≡ []
    → g.lists now ≡ without_lists (numbers_of_snapshots all) (g.lists start)
releasing_ends g all start left now so_far none =
    sym (without_none (g.lists now))
    ∙ ap (λ (xs : List SnapshotFields). without_lists (numbers_of_snapshots xs) (g.lists now)) (sym none)
    ∙ so_far.released

-- ---- a repository goes on meanwhile

grown_same : (one : NamedRepo) → HasGrown one one
grown_same one = record { name = refl; added = record { more = []; sets = sym (append-nil one.repo.sets) } }

all_grown_same : (repos : List NamedRepo) → AllZip HasGrown repos repos
all_grown_same [] = tt
all_grown_same (one ∷ repos) = (grown_same one, all_grown_same repos)

grown_set : (repos : List NamedRepo) (i : ℕ) (one new : NamedRepo) → slice_get repos i ≡ Some one → HasGrown one new → AllZip HasGrown repos (slice_set repos i new)
grown_set [] i one new there grown = tt
grown_set (x ∷ repos) zero one new there grown = (subst (λ (y : NamedRepo). HasGrown y new) (sym (same_one x one there)) grown, all_grown_same repos)
grown_set (x ∷ repos) (suc i) one new there grown = (grown_same x, grown_set repos i one new there grown)

zip_drop : {A B : Type 0} (R : A → B → Type 0) (k : ℕ) (xs : List A) (ys : List B) → AllZip R xs ys → AllZip R (drop k xs) (drop k ys)
zip_drop R zero xs ys all = all
zip_drop R (suc k) [] [] all = all
zip_drop R (suc k) [] (y ∷ ys) all = absurd all
zip_drop R (suc k) (x ∷ xs) [] all = absurd all
zip_drop R (suc k) (x ∷ xs) (y ∷ ys) all = zip_drop R k xs ys all.1

no_fewer : (a b c d : ℕ) → a ≤ b → d ≡ b + c → a ≤ d
no_fewer a b c d less is = omega (arith, less, is)

grown_sets : (old new : List NamedRepo) (snapshots : List SnapshotFields) → AllZip HasGrown old new → AllZip HasItsSets old snapshots → AllZip HasItsSets new snapshots
grown_sets [] [] snapshots grown each = each
grown_sets [] (y ∷ new) snapshots grown each = absurd grown
grown_sets (x ∷ old) [] snapshots grown each = absurd grown
grown_sets (x ∷ old) (y ∷ new) [] grown each = absurd each
grown_sets (x ∷ old) (y ∷ new) (s ∷ snapshots) grown each = (
  no_fewer s.sets (length x.repo.sets) (length grown.0.added.more) (length y.repo.sets) each.0 (ap length grown.0.added.sets ∙ length-append x.repo.sets grown.0.added.more),
  grown_sets old new snapshots grown.1 each.1,
)

grown_parts : (lists : VersionLists) (old new : List NamedRepo) (snapshots : List SnapshotFields) → AllZip HasGrown old new → AllZip HasItsSets old snapshots
    → parts_of_each lists new snapshots ≡ parts_of_each lists old snapshots
grown_parts lists [] [] snapshots grown each = refl
grown_parts lists [] (y ∷ new) snapshots grown each = absurd grown
grown_parts lists (x ∷ old) [] snapshots grown each = absurd grown
grown_parts lists (x ∷ old) (y ∷ new) [] grown each = absurd each
grown_parts lists (x ∷ old) (y ∷ new) (s ∷ snapshots) grown each =
    let rest : List NamedPart = parts_of_each lists new snapshots in
    ap (λ (name : List ℕ). map (named_part name s.clock) (parts_left y.repo.sets lists s) ++ rest) grown.0.name
    ∙ ap (λ (sets : List NamedSet). map (named_part x.name s.clock) (parts_left sets lists s) ++ rest) grown.0.added.sets
    ∙ ap (λ (ps : List SavedPartState). map (named_part x.name s.clock) ps ++ rest) (left_more x.repo.sets grown.0.added.more lists s each.0)
    ∙ ap (λ (ps : List NamedPart). parts_of_one lists x s ++ ps) (grown_parts lists old new snapshots grown.1 each.1)

none_at : (repos : List NamedRepo) (i : ℕ) (one : NamedRepo) (numbers : List ℕ) → slice_get repos i ≡ Some one → AreNoneOf numbers repos → HaveNone numbers (numbers_of one.repo)
none_at [] i one numbers there none = nothing_there one there
none_at (x ∷ repos) zero one numbers there none = subst (λ (y : NamedRepo). HaveNone numbers (numbers_of y.repo)) (same_one x one there) none.0
none_at (x ∷ repos) (suc i) one numbers there none = none_at repos i one numbers there none.1

none_set : (repos : List NamedRepo) (i : ℕ) (new : NamedRepo) (numbers : List ℕ) → AreNoneOf numbers repos → HaveNone numbers (numbers_of new.repo) → AreNoneOf numbers (slice_set repos i new)
none_set [] i new numbers none apart = tt
none_set (x ∷ repos) zero new numbers none apart = (apart, none.1)
none_set (x ∷ repos) (suc i) new numbers none apart = (none.0, none_set repos i new numbers none.1 apart)

-- whatever a repository does, the snapshots hold, and the same is left of them
snapshots_kept : (honest : Bool) (repos : List NamedRepo) (i : ℕ) (one new : NamedRepo) (snapshots : List SnapshotFields) (before after : VersionLists) → slice_get repos i ≡ Some one
    → HasGrown one new → KeepsOthers (numbers_of one.repo) before (numbers_of new.repo) after → HoldsSnapshots honest repos snapshots before
    → HoldsSnapshots honest (slice_set repos i new) snapshots after × (parts_left_in (slice_set repos i new) after snapshots ≡ parts_left_in repos before snapshots)
snapshots_kept honest repos i one new snapshots before after there grown keeps held =
    let xs : List ℕ = numbers_of_snapshots snapshots in
    let kept = kept_others (numbers_of one.repo) (numbers_of new.repo) xs before after keeps held.stands (none_at repos i one xs there held.apart) in
    let same : AreSame xs before after = λ n is. (kept n is).1 in
    let all : AllZip HasGrown repos (slice_set repos i new) = grown_set repos i one new there grown in
    let long : length repos ≡ length (slice_set repos i new) = zip_long HasGrown repos (slice_set repos i new) all in
    let k : ℕ = length repos - length snapshots in
    let left : AllZip HasGrown (drop k repos) (drop k (slice_set repos i new)) = zip_drop HasGrown k repos (slice_set repos i new) all in
    let is_left : repos_left (slice_set repos i new) snapshots ≡ drop k (slice_set repos i new) = ap (λ (n : ℕ). drop (n - length snapshots) (slice_set repos i new)) (sym long) in (
      record {
        stands = stands_same xs before after same held.stands;
        whole = λ sure. whole_same xs before after same (held.whole sure);
        apart = none_set repos i new xs held.apart (λ n is. (kept n is).0);
        sets = subst (λ (rs : List NamedRepo). AllZip HasItsSets rs snapshots) (sym is_left) (grown_sets (drop k repos) (drop k (slice_set repos i new)) snapshots left held.sets);
      },
      ap (λ (rs : List NamedRepo). parts_of_each after rs snapshots) is_left
          ∙ grown_parts after (drop k repos) (drop k (slice_set repos i new)) snapshots left held.sets
          ∙ each_where (drop k repos) snapshots before after same,
    )

pub snapshots_changed : (honest : Bool) (place : ℕ) (old new : List NamedRepo) (snapshots : List SnapshotFields) (before after : VersionLists) → HasChangedAt place old before new after → HoldsSnapshots honest old snapshots before
    → HoldsSnapshots honest new snapshots after × (parts_left_in new after snapshots ≡ parts_left_in old before snapshots)
snapshots_changed honest place old new snapshots before after is held =
    subst (λ (repos : List NamedRepo). HoldsSnapshots honest repos snapshots after × (parts_left_in repos after snapshots ≡ parts_left_in old before snapshots)) (sym is.set)
    (snapshots_kept honest old place is.one is.changed snapshots before after is.there is.grown is.keeps held)

-- ---- the snapshots are handed out meanwhile

module _ (xs ys : List ℕ) (before after : VersionLists) (keeps : KeepsOthers xs before ys after) where
  own_same : (one : NamedRepo) → HaveNone xs (numbers_of one.repo) → HaveNone ys (numbers_of one.repo) → (n : ℕ) → has (numbers_of one.repo) n ≡ true → after n ≡ before n
  own_same one none more n there = keeps.others n (none_turned xs (numbers_of one.repo) none n there) (none_turned ys (numbers_of one.repo) more n there)

  all_stand : (repos : List NamedRepo) → AreNoneOf xs repos → AreNoneOf ys repos → AllStand repos before → AllStand repos after
  all_stand [] none more stand = tt
  all_stand (one ∷ repos) none more stand = (stands_where one.repo before after (own_same one none.0 more.0) stand.0, all_stand repos none.1 more.1 stand.1)

  all_held : (repos : List NamedRepo) → AreNoneOf xs repos → AreNoneOf ys repos → AllHeld repos before → AllHeld repos after
  all_held [] none more held = tt
  all_held (one ∷ repos) none more held = (held_where one.repo before after (own_same one none.0 more.0) held.0, all_held repos none.1 more.1 held.1)

  all_states : (repos : List NamedRepo) → AreNoneOf xs repos → AreNoneOf ys repos → repositories_of repos after ≡ repositories_of repos before
  all_states [] none more = refl
  all_states (one ∷ repos) none more =
      ap (λ (state : RepoState). record { name = one.name; config = one.repo.config; state = state } ∷ repositories_of repos after) (state_same one.repo before after (own_same one none.0 more.0))
      ∙ ap (λ (others : List Repository). repository_of before one ∷ others) (all_states repos none.1 more.1)

-- and the repositories stay as they are
pub repos_kept : (honest : Bool) (repos : List NamedRepo) (old new : List SnapshotFields) (before after : VersionLists) → HoldsSnapshots honest repos old before
    → LeavesSnapshots honest repos old before new after → AreNamedRepos honest repos before
    → AreNamedRepos honest repos after × (repositories_of repos after ≡ repositories_of repos before)
repos_kept honest repos old new before after held leaves named = (
  record {
    named = named.named;
    stand = all_stand (numbers_of_snapshots old) (numbers_of_snapshots new) before after leaves.others repos held.apart leaves.holds.apart named.stand;
    held = λ sure. all_held (numbers_of_snapshots old) (numbers_of_snapshots new) before after leaves.others repos held.apart leaves.holds.apart (named.held sure);
    apart = named.apart;
  },
  all_states (numbers_of_snapshots old) (numbers_of_snapshots new) before after leaves.others repos held.apart leaves.holds.apart,
)

-- ---- what is left of snapshots just taken

pub each_taken : (repos : List NamedRepo) (snapshots : List SnapshotFields) (before after : VersionLists) → AreInOrder before → AllHeld repos before
    → AllZip (IsTakenOf before after) repos snapshots
    → AllZip (λ (one : NamedRepo) (s : SnapshotFields). IsSnapshot (state_of one.repo before) one.repo.sets after s) repos snapshots
each_taken [] [] before after ordered held each = tt
each_taken [] (s ∷ snapshots) before after ordered held each = absurd each
each_taken (one ∷ repos) [] before after ordered held each = absurd each
each_taken (one ∷ repos) (s ∷ snapshots) before after ordered held each =
    (snapshot_taken one.repo before after s ordered (stored_whole one.repo before held.0) each.0, each_taken repos snapshots before after ordered held.1 each.1)

pub all_taken : (honest : Bool) (repos : List NamedRepo) (before : VersionLists) (snapshots : List SnapshotFields) (after : VersionLists) → AreInOrder before → AllHeld repos before
    → AreSnapshotsTaken honest repos before snapshots after
    → AllZip (λ (one : NamedRepo) (s : SnapshotFields). IsSnapshot (state_of one.repo before) one.repo.sets after s) repos snapshots
all_taken honest repos before snapshots after ordered held taken = each_taken repos snapshots before after ordered held taken.each

-- ---- taken one after the other, in a loop

pub taken_more : (honest : Bool) (repos : List NamedRepo) (i : ℕ) (one : NamedRepo) (before : VersionLists) (snapshots : List SnapshotFields) (between : VersionLists) (s : SnapshotFields) (after : VersionLists)
    → i < length repos → one ≡ get_or repos i one → AllStand repos before → AreSnapshotsTaken honest (take i repos) before snapshots between → IsSnapshotTaken one.repo between s after
    → HoldsSnapshot honest s after → KeepsOthers [] between (numbers_of_snapshot s) after → AreSnapshotsTaken honest (take (i + 1) repos) before (snapshots ++ s ∷ []) after
taken_more honest repos i one before snapshots between s after within is stand so_far taken holds keeps =
    subst (λ (front : List NamedRepo). AreSnapshotsTaken honest front before (snapshots ++ s ∷ []) after) (ap (λ (x : NamedRepo). take i repos ++ x ∷ []) is ∙ sym (take_more repos i one within))
    (one_taken honest (take i repos) one before snapshots between s after (stands_at repos i one before (got_there repos i one within is) stand) so_far taken holds keeps)

-- what belongs to the repositories is as it was
pub still_owns : (honest now : Bool) (repos front : List NamedRepo) (i : ℕ) (one : NamedRepo) (before : VersionLists) (snapshots : List SnapshotFields) (between : VersionLists)
    → i < length repos → one ≡ get_or repos i one → now ≡ honest → AreNamedRepos honest repos before → AreSnapshotsTaken honest front before snapshots between → Owns now one.repo between
still_owns honest now repos front i one before snapshots between within is same named taken =
    let there = got_there repos i one within is in
    let stands : HasNumbersIn one.repo before = stands_at repos i one before there named.stand in
    let kept : (n : ℕ) → has (numbers_of one.repo) n ≡ true → between n ≡ before n = λ n own.
    (kept_other [] (numbers_of_snapshots snapshots) before between n taken.others refl (used_at (numbers_of one.repo) before n stands.used own)).1
    in
    record {
      stands = stands_where one.repo before between kept stands;
      held = λ sure. held_where one.repo before between kept (held_at repos i one before there (named.held (subst (λ (b : Bool). IsTrue b) same sure)));
    }

pub calls_within : (repos : List NamedRepo) (i : ℕ) (one : NamedRepo) → i < length repos → one ≡ get_or repos i one
    → calls_for (take i repos) + (length (open_ones one.repo.clock one.repo.table.lists) + 1) ≤ calls_for repos
calls_within [] i one within is = absurd (omega (arith, within))
calls_within (x ∷ repos) zero one within is = first (length (open_ones one.repo.clock one.repo.table.lists) + 1) (length (open_ones x.repo.clock x.repo.table.lists) + 1) (calls_for repos) (ap (λ (o : NamedRepo). length (open_ones o.repo.clock o.repo.table.lists) + 1) is)
  where
    first : (a b c : ℕ) → a ≡ b → 0 + a ≤ b + c
    first a b c same = omega (arith, same)
calls_within (x ∷ repos) (suc i) one within is =
    later (length (open_ones x.repo.clock x.repo.table.lists) + 1) (calls_for (take i repos)) (length (open_ones one.repo.clock one.repo.table.lists) + 1) (calls_for repos) (calls_within repos i one (omega (arith, within)) is)
  where
    later : (a b c d : ℕ) → b + c ≤ d → (a + b) + c ≤ a + d
    later a b c d less = omega (arith, less)

pub calls_more : (repos : List NamedRepo) (i : ℕ) (one : NamedRepo) → i < length repos → one ≡ get_or repos i one
    → calls_for (take (i + 1) repos) ≡ calls_for (take i repos) + (length (open_ones one.repo.clock one.repo.table.lists) + 1)
calls_more repos i one within is =
    ap calls_for (take_more repos i one within ∙ sym (ap (λ (x : NamedRepo). take i repos ++ x ∷ []) is)) ∙ last (take i repos)
  where
    end : (a : ℕ) → a + 0 ≡ 0 + a
    end a = omega arith

    along : (a b c d : ℕ) → b ≡ c + d → a + b ≡ (a + c) + d
    along a b c d is = omega (arith, is)

    last : (front : List NamedRepo) → calls_for (front ++ one ∷ []) ≡ calls_for front + (length (open_ones one.repo.clock one.repo.table.lists) + 1)
    last [] = end (length (open_ones one.repo.clock one.repo.table.lists) + 1)
    last (x ∷ front) = along (length (open_ones x.repo.clock x.repo.table.lists) + 1) (calls_for (front ++ one ∷ [])) (calls_for front) (length (open_ones one.repo.clock one.repo.table.lists) + 1) (last front)

pub spends_more : {V A : Type 0} (g : Ghosts V) (front own all : ℕ) (x : A) (start now new : V) → all ≡ front + own → Spends {A = Unit {0}} g.room g.failures g.honest front (Ok tt) start now
    → Spends {A = A} g.room g.failures g.honest own (Ok x) now new → Spends {A = Unit {0}} g.room g.failures g.honest all (Ok tt) start new
spends_more g front own all x start now new is so_far more =
    let used = so_far.room.used in
    let more_used = more.room.used in
    let first = so_far.device.count in
    let second = more.device.count in
    record {
      room = record { enough = tt; used = omega (arith, used, more_used, is) };
      device = record { count = omega (arith, first, second); device = tt };
      honesty = record { same = more.honesty.same ∙ so_far.honesty.same; damaged = tt };
    }

pub spends_failed : {V A : Type 0} (g : Ghosts V) (front own all : ℕ) (fault : Fault) (start now new : V) → front + own ≤ all → Spends {A = Unit {0}} g.room g.failures g.honest front (Ok tt) start now
    → Spends {A = A} g.room g.failures g.honest own (Err fault) now new → Spends {A = Unit {0}} g.room g.failures g.honest all (Err fault) start new
spends_failed g front own all fault start now new within so_far failed =
    let used = so_far.room.used in
    let more_used = failed.room.used in
    let first = so_far.device.count in
    let second = failed.device.count in
    record {
      room = record { enough = λ full. let few = failed.room.enough full in omega (arith, used, few, within); used = omega (arith, used, more_used, within) };
      device = record { count = omega (arith, first, second); device = λ broken. rose (failed.device.device broken) };
      honesty = record { same = failed.honesty.same ∙ so_far.honesty.same; damaged = λ damage. sym so_far.honesty.same ∙ failed.honesty.damaged damage };
    } where
      rose : (g.failures now < g.failures new) ⊎ (g.failures now ≡ 18446744073709551615) → (g.failures start < g.failures new) ⊎ (g.failures start ≡ 18446744073709551615)
      rose (inl up) = inl (let first = so_far.device.count in omega (arith, up, first))
      rose (inr top) = top_of (cases_lt (g.failures start) (g.failures new)) where
        top_of : (g.failures start < g.failures new) ⊎ (g.failures new ≤ g.failures start) → (g.failures start < g.failures new) ⊎ (g.failures start ≡ 18446744073709551615)
        top_of (inl up) = inl up
        top_of (inr no_more) = inr (let first = so_far.device.count in let second = failed.device.count in omega (arith, top, no_more, first, second))

-- out of memory after some calls
pub spends_stopped : {V : Type 0} (g : Ghosts V) (front own all : ℕ) (start now : V) → front + own ≤ all → Spends {A = Unit {0}} g.room g.failures g.honest front (Ok tt) start now
    → Spends {A = Unit {0}} g.room g.failures g.honest all (Err NoMemory) start now
spends_stopped g front own all start now within so_far =
    let used = so_far.room.used in
    record {
      room = record { enough = λ full. cc; used = omega (arith, used, within) };
      device = record { count = so_far.device.count; device = λ broken. cc };
      honesty = record { same = so_far.honesty.same; damaged = λ damage. cc };
    }

-- ---- at a host

free_of_none : (repos : List NamedRepo) → AreNoneOf [] repos
free_of_none [] = tt
free_of_none (one ∷ repos) = ((λ n there. clash false there refl), free_of_none repos)

-- no snapshot is left
pub holds_none : (honest : Bool) (repos : List NamedRepo) (lists : VersionLists) → HoldsSnapshots honest repos [] lists
holds_none honest repos lists = record {
  stands = record { used = refl; apart = refl };
  whole = λ _. refl;
  apart = free_of_none repos;
  sets = subst (λ (rs : List NamedRepo). AllZip HasItsSets rs []) (sym (drop_all (length repos - 0) repos (omega arith))) tt;
}

none_of_each : (lists : VersionLists) (repos : List NamedRepo) → parts_of_each lists repos [] ≡ []
none_of_each lists [] = refl
none_of_each lists (one ∷ repos) = refl

pub none_left_in : (repos : List NamedRepo) (lists : VersionLists) → parts_left_in repos lists [] ≡ []
none_left_in repos lists = none_of_each lists (repos_left repos [])

-- all are released
pub leaves_none : (honest : Bool) (repos : List NamedRepo) (old : List SnapshotFields) (before after : VersionLists) → after ≡ without_lists (numbers_of_snapshots old) before
    → LeavesSnapshots honest repos old before [] after
leaves_none honest repos old before after is = record {
  holds = holds_none honest repos after;
  others = subst (λ (lists : VersionLists). KeepsOthers (numbers_of_snapshots old) before [] lists) (sym is) (kept_released (numbers_of_snapshots old) before);
}

-- they are taken
pub leaves_taken : (honest : Bool) (repos : List NamedRepo) (before : VersionLists) (snapshots : List SnapshotFields) (after : VersionLists) → HoldsSnapshots honest repos snapshots after
    → AreSnapshotsTaken honest repos before snapshots after → LeavesSnapshots honest repos [] before snapshots after
leaves_taken honest repos before snapshots after holds taken = record { holds = holds; others = taken.others }

-- and all is left
pub saved_taken : (honest : Bool) (repos : List NamedRepo) (before : VersionLists) (snapshots : List SnapshotFields) (after : VersionLists) → IsTrue honest → AreInOrder before → AreNamedRepos honest repos before
    → AreSnapshotsTaken honest repos before snapshots after → AreSavedBy (parts_left_in repos after snapshots) (repositories_of repos before) []
saved_taken honest repos before snapshots after sure ordered named taken =
    let long : length repos ≡ length snapshots = zip_long (IsTakenOf before after) repos snapshots taken.each in
    let all : repos_left repos snapshots ≡ repos = ap (λ (n : ℕ). drop (n - length snapshots) repos) long ∙ ap (λ (n : ℕ). drop n repos) (no_more (length snapshots)) in
    subst (λ (rs : List NamedRepo). AreSavedBy (parts_of_each after rs snapshots) (repositories_of repos before) []) (sym all)
    (saved_none repos snapshots before after named.named.distinct (all_taken honest repos before snapshots after ordered (named.held sure) taken))

pub saved_some : {S : Type 0} (has : S → List PartState → Type 0) (repos : List NamedRepo) (old : List SnapshotFields) (before : VersionLists) (sink : S) (new : List SnapshotFields) (after : VersionLists) (took : S)
    → SavesSome has repos old before sink new after took → SavesMore has (AreSavedBy (parts_left_in repos before old)) sink (AreSavedBy (parts_left_in repos after new)) took
saved_some has repos old before sink new after took is = record {
  some = map encoded_part is.some;
  taken = is.taken;
  saved = λ repositories parts. saved_more (parts_left_in repos before old) is.some (parts_left_in repos after new) repositories parts is.handed is.readable;
}

pub none_saved : {S : Type 0} (has : S → List PartState → Type 0) (repos : List NamedRepo) (old : List SnapshotFields) (before : VersionLists) (sink : S) (new : List SnapshotFields) (after : VersionLists) (took : S)
    → SavesSome has repos old before sink new after took → is_none (slice_get old 0) ≡ true → parts_left_in repos after new ≡ []
none_saved has repos [] before sink new after took is none = last_none is.some (parts_left_in repos after new) (sym is.handed ∙ none_left_in repos before)
none_saved has repos (s ∷ old) before sink new after took is none = cc

-- what a call on the snapshots leaves of the repositories
pub repos_beside : (honest now : Bool) (repos : List NamedRepo) (old new : List SnapshotFields) (before after : VersionLists) → now ≡ honest → HoldsSnapshots honest repos old before
    → LeavesSnapshots honest repos old before new after → AreNamedRepos honest repos before
    → AreNamedRepos now repos after × (HoldsSnapshots now repos new after × (repositories_of repos after ≡ repositories_of repos before))
repos_beside honest now repos old new before after same held leaves named =
    let kept = repos_kept honest repos old new before after held leaves named in (
      subst (λ (b : Bool). AreNamedRepos b repos after) (sym same) kept.0,
      (subst (λ (b : Bool). HoldsSnapshots b repos new after) (sym same) leaves.holds, kept.1),
    )

pub repos_released : (honest now : Bool) (repos : List NamedRepo) (old new : List SnapshotFields) (before after : VersionLists) → now ≡ honest → HoldsSnapshots honest repos old before
    → new ≡ [] → after ≡ without_lists (numbers_of_snapshots old) before → AreNamedRepos honest repos before
    → AreNamedRepos now repos after × (HoldsSnapshots now repos new after × (repositories_of repos after ≡ repositories_of repos before))
repos_released honest now repos old new before after same held none is named =
    repos_beside honest now repos old new before after same held
    (subst (λ (xs : List SnapshotFields). LeavesSnapshots honest repos old before xs after) (sym none) (leaves_none honest repos old before after is)) named
