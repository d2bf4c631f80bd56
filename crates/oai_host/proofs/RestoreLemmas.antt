-- A part that was read is restored at the repository of its name, and the others stay as they were.
use Rattle.std.proofs.Common.{◌≡◌, ◌∙◌, ◌<◌, ℕ, suc, zero, arith, Bool, true, false, List, [], ◌∷◌, get_or, length, slice_set, Some, Result, Ok, Err, IfOk, OnErr, OnOk, IsTrue, refl, sym, ap, ap₂, subst, map}
use Rattle.std.specs.List.{list_any, slice_get}
use Rattle.std.specs.Str.{bytes_eq}
use Rattle.std.proofs.lemmas.Bool.{cond-false, cond-true, or_parts}
use Rattle.oai_item.specs.Rules.{has_repeat}
use Rattle.oai_item.specs.declared.faults.Fault.{Fault}
use Rattle.oai_catalogue.specs.Store.{VersionLists}
use Rattle.oai_catalogue.specs.declared.versions.Versions.{Ghosts}
use Rattle.oai_settings.specs.Config.{RepositoryConfig}
use Rattle.oai_repo.specs.Fields.{Keeps, RepoFields, state_of}
use Rattle.oai_repo.specs.Saved.{SavedPartState, with_part}
use Rattle.oai_repo.specs.State.{RepoState}
use Rattle.oai_replay.specs.Parts.{PartState}
use Rattle.oai_http.proofs.TargetLemmas.{bytes_same, bytes_turned}
use Rattle.oai_host.specs.Hosts.{Repository}
use Rattle.oai_host.specs.NamedRepos.{AreNamedRepos, repo_names, repositories_of, repository_of}
use Rattle.oai_host.specs.Saved.{part_in, restored_at, restored_in, with_read}
use Rattle.oai_host.specs.Saving.{RestoresIn}
use Rattle.oai_host.specs.declared.repositories.NamedRepo.{NamedRepo}
use Rattle.oai_host.proofs.NamedRepoLemmas.{repositories_set, unused_at}
use Rattle.oai_host.proofs.PlaceLemmas.{nothing_there, same_one}

-- ---- at one repository

-- a fact on what a call that was Ok did leads to another
pub on_ok : {A E : Type 0} (P Q : Type 0) (result : Result A E) → (P → Q) → OnOk result P → OnOk result Q
on_ok P Q (Ok a) leads h = leads h
on_ok P Q (Err e) leads h = h

pub restores_part : {V : Type 0} (g : Ghosts V) (spelled : PartState) (part : SavedPartState) (result : Result (Unit {0}) Fault) (old : RepoFields) (before : V) (new : RepoFields) (after : V) → part_in spelled ≡ Some part
    → OnOk result (IsTrue (g.honest before) → state_of new (g.lists after) ≡ with_part (state_of old (g.lists before)) part)
    → OnErr result ((new ≡ old) × (g.lists after ≡ g.lists before))
    → Keeps (g.honest before) old (g.lists before) new (g.lists after)
    → g.honest after ≡ g.honest before
    → RestoresIn g spelled result old before new after
restores_part g spelled part result old before new after read restored err kept honesty = record {
  restored = on_ok (IsTrue (g.honest before) → state_of new (g.lists after) ≡ with_part (state_of old (g.lists before)) part)
      (IsTrue (g.honest before) → state_of new (g.lists after) ≡ with_read (state_of old (g.lists before)) (part_in spelled)) result
      (λ is honest. is honest ∙ ap (with_read (state_of old (g.lists before))) (sym read)) restored;
  err = err;
  kept = kept;
  honesty = honesty;
}

-- ---- at a place of a list

-- the part is of none of these
not_restored : (part : PartState) (rs : List Repository) (name : List ℕ) → name ≡ part.name → list_any (bytes_eq name) (map (λ (r : Repository). r.name) rs) ≡ false → restored_in rs part ≡ rs
not_restored part [] name is apart = refl
not_restored part (x ∷ rs) name is apart =
    let both = or_parts (bytes_eq name x.name) (list_any (bytes_eq name) (map (λ (r : Repository). r.name) rs)) apart in
    let other : bytes_eq x.name part.name ≡ false = bytes_turned part.name x.name (ap (λ (n : List ℕ). bytes_eq n x.name) (sym is) ∙ both.0) in
    ap₂ (λ (y : Repository) (ys : List Repository). y ∷ ys)
    (cond-false (bytes_eq x.name part.name) (record x { state = with_read x.state (part_in part) }) x other)
    (not_restored part rs name is both.1)

names_are : (repos : List NamedRepo) (lists : VersionLists) → map (λ (r : Repository). r.name) (repositories_of repos lists) ≡ repo_names repos
names_are [] lists = refl
names_are (x ∷ repos) lists = ap (λ (ns : List (List ℕ)). x.name ∷ ns) (names_are repos lists)

set_restored : (part : PartState) (repos : List NamedRepo) (lists : VersionLists) (i : ℕ) (one : NamedRepo) → slice_get repos i ≡ Some one → one.name ≡ part.name → has_repeat (repo_names repos) ≡ false
    → slice_set (repositories_of repos lists) i (restored_at part (repository_of lists one)) ≡ restored_in (repositories_of repos lists) part
set_restored part [] lists i one there is apart = nothing_there one there
set_restored part (x ∷ repos) lists zero one there is apart =
    let same : x ≡ one = same_one x one there in
    let both = or_parts (list_any (bytes_eq x.name) (repo_names repos)) (has_repeat (repo_names repos)) apart in
    let mine : x.name ≡ part.name = ap (λ (y : NamedRepo). y.name) same ∙ is in
    let unused : list_any (bytes_eq x.name) (map (λ (r : Repository). r.name) (repositories_of repos lists)) ≡ false = ap (list_any (bytes_eq x.name)) (names_are repos lists) ∙ both.0 in
    ap₂ (λ (y : NamedRepo) (ys : List Repository). restored_at part (repository_of lists y) ∷ ys) (sym same)
    (sym (not_restored part (repositories_of repos lists) x.name mine unused))
set_restored part (x ∷ repos) lists (suc i) one there is apart =
    let both = or_parts (list_any (bytes_eq x.name) (repo_names repos)) (has_repeat (repo_names repos)) apart in
    let differ : bytes_eq x.name part.name ≡ false = ap (bytes_eq x.name) (sym is) ∙ unused_at x.name repos i one there both.0 in
    ap₂ (λ (y : Repository) (ys : List Repository). y ∷ ys)
    (sym (cond-false (bytes_eq x.name part.name) (record { name = x.name; config = x.repo.config; state = with_read (state_of x.repo lists) (part_in part) }) (repository_of lists x) differ))
    (set_restored part repos lists i one there is both.1)

set_same : (rs : List NamedRepo) (lists : VersionLists) (i : ℕ) (one : NamedRepo) → slice_get rs i ≡ Some one → slice_set (repositories_of rs lists) i (repository_of lists one) ≡ repositories_of rs lists
set_same [] lists i one there = nothing_there one there
set_same (x ∷ rs) lists zero one there = ap (λ (y : NamedRepo). repository_of lists y ∷ repositories_of rs lists) (sym (same_one x one there))
set_same (x ∷ rs) lists (suc i) one there = ap (λ (others : List Repository). repository_of lists x ∷ others) (set_same rs lists i one there)

-- ---- of a host

pub restored_set : (was : Bool) (part : PartState) (repos : List NamedRepo) (i : ℕ) (one : NamedRepo) (new : RepoFields) (before after : VersionLists) → slice_get repos i ≡ Some one → one.name ≡ part.name → AreNamedRepos was repos before
    → Keeps was one.repo before new after → state_of new after ≡ with_read (state_of one.repo before) (part_in part)
    → repositories_of (slice_set repos i (record { name = one.name; repo = new })) after ≡ restored_in (repositories_of repos before) part
restored_set was part repos i one new before after there is old kept state =
    let made : repository_of after (record { name = one.name; repo = new }) ≡ restored_at part (repository_of before one) =
    ap₂ (λ (c : RepositoryConfig) (s : RepoState). record { name = one.name; config = c; state = s }) kept.config state
    ∙ sym (cond-true (bytes_eq one.name part.name) (record { name = one.name; config = one.repo.config; state = with_read (state_of one.repo before) (part_in part) }) (repository_of before one)
    (subst (λ (n : List ℕ). bytes_eq one.name n ≡ true) is (bytes_same one.name)))
    in
    repositories_set was repos i one new before after there old kept
    ∙ ap (slice_set (repositories_of repos before) i) made
    ∙ set_restored part repos before i one there is old.named.distinct

pub unchanged_set : (was : Bool) (repos : List NamedRepo) (i : ℕ) (one : NamedRepo) (new : RepoFields) (before after : VersionLists) → slice_get repos i ≡ Some one → AreNamedRepos was repos before → Keeps was one.repo before new after
    → (new ≡ one.repo) × (after ≡ before) → repositories_of (slice_set repos i (record { name = one.name; repo = new })) after ≡ repositories_of repos before
unchanged_set was repos i one new before after there old kept same =
    repositories_set was repos i one new before after there old kept
    ∙ ap₂ (λ (r : RepoFields) (l : VersionLists). slice_set (repositories_of repos before) i (repository_of l (record { name = one.name; repo = r }))) same.0 same.1
    ∙ set_same repos before i one there

-- so it is of a call, whether it was Ok or not
pub restored_ok : (honest : Bool) (part : PartState) (result : Result (Unit {0}) Fault) (repos : List NamedRepo) (i : ℕ) (one : NamedRepo) (new : RepoFields) (before after : VersionLists) → slice_get repos i ≡ Some one → one.name ≡ part.name
    → AreNamedRepos honest repos before → Keeps honest one.repo before new after
    → OnOk result (IsTrue honest → state_of new after ≡ with_read (state_of one.repo before) (part_in part))
    → OnOk result (IsTrue honest → repositories_of (slice_set repos i (record { name = one.name; repo = new })) after ≡ restored_in (repositories_of repos before) part)
restored_ok honest part (Ok _) repos i one new before after there is old kept state = λ sure. restored_set honest part repos i one new before after there is old kept (state sure)
restored_ok honest part (Err fault) repos i one new before after there is old kept state = tt

pub restored_err : (honest : Bool) (result : Result (Unit {0}) Fault) (repos : List NamedRepo) (i : ℕ) (one : NamedRepo) (new : RepoFields) (before after : VersionLists) → slice_get repos i ≡ Some one → AreNamedRepos honest repos before
    → Keeps honest one.repo before new after → OnErr result ((new ≡ one.repo) × (after ≡ before))
    → OnErr result (repositories_of (slice_set repos i (record { name = one.name; repo = new })) after ≡ repositories_of repos before)
restored_err honest (Ok _) repos i one new before after there old kept same = tt
restored_err honest (Err fault) repos i one new before after there old kept same = unchanged_set honest repos i one new before after there old kept same

-- ---- at a place

pub got_there : (repos : List NamedRepo) (i : ℕ) (one : NamedRepo) → i < length repos → one ≡ get_or repos i one → slice_get repos i ≡ Some one
got_there [] i one within is = absurd (omega (arith, within))
got_there (x ∷ repos) zero one within is = ap Some (sym is)
got_there (x ∷ repos) (suc i) one within is = got_there repos i one (omega (arith, within)) is

pub on_err : {A E : Type 0} (P Q : Type 0) (result : Result A E) → (P → Q) → OnErr result P → OnErr result Q
on_err P Q (Ok x) turn is = tt
on_err P Q (Err fault) turn is = turn is

-- two facts of a value that a result has are a third
pub if_both : {A E : Type 0} (P Q R : A → Type 0) (result : Result A E) → ((x : A) → P x → Q x → R x) → IfOk result P → IfOk result Q → IfOk result R
if_both P Q R (Ok x) turn is other = turn x is other
if_both P Q R (Err fault) turn is other = tt
