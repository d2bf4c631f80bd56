-- What is saved so far and what is left to save make the repositories: parts that were taken are read back.
use Rattle.std.proofs.Common.{◌≡◌, ◌∙◌, ℕ, ℤ, false, cond, List, [], ◌∷◌, ◌++◌, map, Option, refl, sym, ap, ap₂}
use Rattle.std.specs.List.{AllByRecursion, AllZip, list_any}
use Rattle.std.specs.Str.{bytes_eq}
use Rattle.std.proofs.lemmas.Bool.{cond-false, cond-true, or_parts}
use Rattle.oai_item.specs.Rules.{has_repeat}
use Rattle.oai_catalogue.specs.Store.{VersionLists}
use Rattle.oai_repo.specs.Fields.{state_of}
use Rattle.oai_repo.specs.Saved.{SavedPartState, with_part, with_parts}
use Rattle.oai_repo.specs.State.{RepoState, empty_state}
use Rattle.oai_replay.specs.Parts.{PartState, restored_all}
use Rattle.oai_snapshots.specs.Snapshots.{IsSnapshot, SnapshotFields, parts_left}
use Rattle.oai_snapshots.proofs.SnapshotLemmas.{snapshot_restored}
use Rattle.oai_http.proofs.TargetLemmas.{bytes_same, bytes_turned}
use Rattle.oai_host.specs.HostSnapshots.{parts_of_each}
use Rattle.oai_host.specs.Hosts.{NamedPart, Repository}
use Rattle.oai_host.specs.NamedRepos.{repo_names, repositories_of, repository_of}
use Rattle.oai_host.specs.Saved.{emptied_at, emptied_in, named_part, restored_at, restored_in, encoded_part, spelled_part, with_read}
use Rattle.oai_host.specs.Saving.{CanBeRead}
use Rattle.oai_host.specs.Unsaved.{AreSavedBy, with_all, with_named}
use Rattle.oai_host.specs.declared.repositories.NamedRepo.{NamedRepo}
use Rattle.oai_host.proofs.SavedLemmas.{read_back}

-- ---- parts with their names

pub named_spelled : (name : List ℕ) (clock : ℤ) (ps : List SavedPartState) → map encoded_part (map (named_part name clock) ps) ≡ map (spelled_part name clock) ps
named_spelled name clock [] = refl
named_spelled name clock (p ∷ ps) = ap (λ (qs : List PartState). spelled_part name clock p ∷ qs) (named_spelled name clock ps)

pub named_readable : (name : List ℕ) (clock : ℤ) (ps : List SavedPartState) → AllByRecursion CanBeRead ps → AllByRecursion (λ (one : NamedPart). CanBeRead one.part) (map (named_part name clock) ps)
named_readable name clock [] all = tt
named_readable name clock (p ∷ ps) all = (all.0, named_readable name clock ps all.1)

-- ---- what was taken is restored

restored_one : (one : NamedPart) → CanBeRead one.part → (r : Repository) → restored_at (encoded_part one) r ≡ with_named one r
restored_one one readable r =
    ap (λ (read : Option SavedPartState). cond (bytes_eq r.name one.name) (record r { state = with_read r.state read }) r) (read_back one.name one.clock one.part readable)

restored_each : (one : NamedPart) → CanBeRead one.part → (rs : List Repository) → restored_in rs (encoded_part one) ≡ map (with_named one) rs
restored_each one readable [] = refl
restored_each one readable (r ∷ rs) = ap₂ (λ (x : Repository) (xs : List Repository). x ∷ xs) (restored_one one readable r) (restored_each one readable rs)

restored_some : (rs : List Repository) (some : List NamedPart) → AllByRecursion (λ (one : NamedPart). CanBeRead one.part) some → restored_all restored_in rs (map encoded_part some) ≡ with_all rs some
restored_some rs [] readable = refl
restored_some rs (one ∷ some) readable =
    ap (λ (xs : List Repository). restored_all restored_in xs (map encoded_part some)) (restored_each one readable.0 rs) ∙ restored_some (map (with_named one) rs) some readable.1

restored_behind : (rs : List Repository) (ps qs : List PartState) → restored_all restored_in rs (ps ++ qs) ≡ restored_all restored_in (restored_all restored_in rs ps) qs
restored_behind rs [] qs = refl
restored_behind rs (p ∷ ps) qs = restored_behind (restored_in rs p) ps qs

all_behind : (rs : List Repository) (some others : List NamedPart) → with_all rs (some ++ others) ≡ with_all (with_all rs some) others
all_behind rs [] others = refl
all_behind rs (one ∷ some) others = all_behind (map (with_named one) rs) some others

-- some of those that are left are taken
pub saved_more : (old some new : List NamedPart) (repositories : List Repository) (parts : List PartState) → old ≡ some ++ new → AllByRecursion (λ (one : NamedPart). CanBeRead one.part) some
    → AreSavedBy old repositories parts → AreSavedBy new repositories (parts ++ map encoded_part some)
saved_more old some new repositories parts split readable so_far =
    let now : List Repository = restored_all restored_in (emptied_in repositories) parts in
    ap (λ (rs : List Repository). with_all rs new) (restored_behind (emptied_in repositories) parts (map encoded_part some) ∙ restored_some now some readable)
    ∙ sym (all_behind now some new)
    ∙ ap (with_all now) (sym split)
    ∙ so_far

-- ---- what is left at first makes all

abbrev with_one : Repository → List NamedPart → Repository
with_one r [] = r
with_one r (p ∷ ps) = with_one (with_named p r) ps

one_behind : (r : Repository) (ps qs : List NamedPart) → with_one r (ps ++ qs) ≡ with_one (with_one r ps) qs
one_behind r [] qs = refl
one_behind r (p ∷ ps) qs = one_behind (with_named p r) ps qs

each_same : (rs : List Repository) → rs ≡ map (λ (r : Repository). with_one r []) rs
each_same [] = refl
each_same (r ∷ rs) = ap (λ (others : List Repository). r ∷ others) (each_same rs)

each_both : (p : NamedPart) (ps : List NamedPart) (rs : List Repository) → map (λ (r : Repository). with_one r ps) (map (with_named p) rs) ≡ map (λ (r : Repository). with_one r (p ∷ ps)) rs
each_both p ps [] = refl
each_both p ps (r ∷ rs) = ap (λ (others : List Repository). with_one (with_named p r) ps ∷ others) (each_both p ps rs)

each_alone : (rs : List Repository) (ps : List NamedPart) → with_all rs ps ≡ map (λ (r : Repository). with_one r ps) rs
each_alone rs [] = each_same rs
each_alone rs (p ∷ ps) = each_alone (map (with_named p) rs) ps ∙ each_both p ps rs

-- its own
own_parts : (r : Repository) (state : RepoState) (clock : ℤ) (ps : List SavedPartState) → with_one (record r { state = state }) (map (named_part r.name clock) ps) ≡ record r { state = with_parts state ps }
own_parts r state clock [] = refl
own_parts r state clock (p ∷ ps) =
    ap (λ (x : Repository). with_one x (map (named_part r.name clock) ps))
    (cond-true (bytes_eq r.name r.name) (record r { state = with_part state p }) (record r { state = state }) (bytes_same r.name))
    ∙ own_parts r (with_part state p) clock ps

-- those of another one
other_parts : (r : Repository) (name : List ℕ) (clock : ℤ) (ps : List SavedPartState) → bytes_eq r.name name ≡ false → with_one r (map (named_part name clock) ps) ≡ r
other_parts r name clock [] apart = refl
other_parts r name clock (p ∷ ps) apart =
    ap (λ (x : Repository). with_one x (map (named_part name clock) ps)) (cond-false (bytes_eq r.name name) (record r { state = with_part r.state p }) r apart)
    ∙ other_parts r name clock ps apart

others_parts : (r : Repository) (repos : List NamedRepo) (snapshots : List SnapshotFields) (lists : VersionLists) → list_any (bytes_eq r.name) (repo_names repos) ≡ false
    → with_one r (parts_of_each lists repos snapshots) ≡ r
others_parts r [] snapshots lists apart = refl
others_parts r (x ∷ repos) [] lists apart = refl
others_parts r (x ∷ repos) (s ∷ snapshots) lists apart =
    let both = or_parts (bytes_eq r.name x.name) (list_any (bytes_eq r.name) (repo_names repos)) apart in
    let own : List SavedPartState = parts_left x.repo.sets lists s in
    one_behind r (map (named_part x.name s.clock) own) (parts_of_each lists repos snapshots)
    ∙ ap (λ (y : Repository). with_one y (parts_of_each lists repos snapshots)) (other_parts r x.name s.clock own both.0)
    ∙ others_parts r repos snapshots lists both.1

behind_other : (x : NamedRepo) (clock : ℤ) (own : List SavedPartState) (repos : List NamedRepo) (before : VersionLists) (ps : List NamedPart) → list_any (bytes_eq x.name) (repo_names repos) ≡ false
    → map (λ (r : Repository). with_one (emptied_at r) (map (named_part x.name clock) own ++ ps)) (repositories_of repos before) ≡ map (λ (r : Repository). with_one (emptied_at r) ps) (repositories_of repos before)
behind_other x clock own [] before ps apart = refl
behind_other x clock own (one ∷ repos) before ps apart =
    let both = or_parts (bytes_eq x.name one.name) (list_any (bytes_eq x.name) (repo_names repos)) apart in
    let r : Repository = repository_of before one in
    let same : with_one (emptied_at r) (map (named_part x.name clock) own ++ ps) ≡ with_one (emptied_at r) ps =
    one_behind (emptied_at r) (map (named_part x.name clock) own) ps
    ∙ ap (λ (y : Repository). with_one y ps) (other_parts (emptied_at r) x.name clock own (bytes_turned x.name r.name both.0)) in
    ap₂ (λ (y : Repository) (ys : List Repository). y ∷ ys) same (behind_other x clock own repos before ps both.1)

all_made : (repos : List NamedRepo) (snapshots : List SnapshotFields) (before after : VersionLists) → has_repeat (repo_names repos) ≡ false
    → AllZip (λ (one : NamedRepo) (s : SnapshotFields). IsSnapshot (state_of one.repo before) one.repo.sets after s) repos snapshots
    → map (λ (r : Repository). with_one (emptied_at r) (parts_of_each after repos snapshots)) (repositories_of repos before) ≡ repositories_of repos before
all_made [] snapshots before after apart each = refl
all_made (x ∷ repos) [] before after apart each = absurd each
all_made (x ∷ repos) (s ∷ snapshots) before after apart each =
    let both = or_parts (list_any (bytes_eq x.name) (repo_names repos)) (has_repeat (repo_names repos)) apart in
    let r : Repository = repository_of before x in
    let own : List SavedPartState = parts_left x.repo.sets after s in
    let behind : List NamedPart = parts_of_each after repos snapshots in
    let made : with_one (emptied_at r) (map (named_part x.name s.clock) own) ≡ r =
    own_parts r (empty_state r.config) s.clock own
    ∙ ap (λ (state : RepoState). record r { state = state }) (snapshot_restored r.state (empty_state r.config) x.repo.sets after s refl each.0) in
    let one : with_one (emptied_at r) (map (named_part x.name s.clock) own ++ behind) ≡ r =
    one_behind (emptied_at r) (map (named_part x.name s.clock) own) behind
    ∙ ap (λ (y : Repository). with_one y behind) made
    ∙ others_parts r repos snapshots after both.0 in
    ap₂ (λ (y : Repository) (ys : List Repository). y ∷ ys) one (behind_other x s.clock own repos before behind both.0 ∙ all_made repos snapshots before after both.1 each.1)

map_emptied : (rs : List Repository) (ps : List NamedPart) → map (λ (r : Repository). with_one r ps) (emptied_in rs) ≡ map (λ (r : Repository). with_one (emptied_at r) ps) rs
map_emptied [] ps = refl
map_emptied (r ∷ rs) ps = ap (λ (others : List Repository). with_one (emptied_at r) ps ∷ others) (map_emptied rs ps)

-- nothing is saved, and all is left
pub saved_none : (repos : List NamedRepo) (snapshots : List SnapshotFields) (before after : VersionLists) → has_repeat (repo_names repos) ≡ false
    → AllZip (λ (one : NamedRepo) (s : SnapshotFields). IsSnapshot (state_of one.repo before) one.repo.sets after s) repos snapshots
    → AreSavedBy (parts_of_each after repos snapshots) (repositories_of repos before) []
saved_none repos snapshots before after apart each =
    let rs : List Repository = repositories_of repos before in
    let ps : List NamedPart = parts_of_each after repos snapshots in
    each_alone (emptied_in rs) ps ∙ map_emptied rs ps ∙ all_made repos snapshots before after apart each
