-- No definition: that repositories share no number, and that snapshots hold, is one fact each, which the ghost fields of
-- `Host` show.
use Rattle.std.proofs.Common.{List, [], ◌∷◌, ℕ}
use Rattle.std.specs.List.{AllByRecursion-prop, AllZip}
use mathlib.Core.Bool.{Bool-set}
use mathlib.Core.HLevel.{Π_prop, ×_prop, Unit-prop, ⊥_prop}
use Rattle.std.proofs.Props as std
use Rattle.oai_snapshots.specs.Snapshots.{SnapshotFields}
use Rattle.oai_host.specs.HostSnapshots.{AreNoneOf, HasItsSets}
use Rattle.oai_host.specs.NamedRepos.{AllApart}
use Rattle.oai_host.specs.declared.repositories.NamedRepo.{NamedRepo}

pub AllApart-prop : (repos : List NamedRepo) → IsProp (AllApart repos)
AllApart-prop [] = Unit-prop
AllApart-prop (one ∷ others) = ×_prop (AllByRecursion-prop _ (λ other. Π_prop (λ n. Π_prop (λ _. Bool-set _ _))) others) (AllApart-prop others)

pub AreNoneOf-prop : (numbers : List ℕ) (repos : List NamedRepo) → IsProp (AreNoneOf numbers repos)
AreNoneOf-prop numbers repos = AllByRecursion-prop _ (λ one. Π_prop (λ n. Π_prop (λ _. Bool-set _ _))) repos

HasItsSets-prop : (one : NamedRepo) (snapshot : SnapshotFields) → IsProp (HasItsSets one snapshot)
HasItsSets-prop one snapshot = hlevel std.props

pub HaveSets-prop : (repos : List NamedRepo) (snapshots : List SnapshotFields) → IsProp (AllZip HasItsSets repos snapshots)
HaveSets-prop [] [] = Unit-prop
HaveSets-prop [] (snapshot ∷ snapshots) = ⊥_prop
HaveSets-prop (one ∷ repos) [] = ⊥_prop
HaveSets-prop (one ∷ repos) (snapshot ∷ snapshots) = ×_prop (HasItsSets-prop one snapshot) (HaveSets-prop repos snapshots)

pub ruleset named_repo_props = (AllApart-prop, std.props)

pub ruleset snapshot_props = (AreNoneOf-prop, HaveSets-prop, std.props)
