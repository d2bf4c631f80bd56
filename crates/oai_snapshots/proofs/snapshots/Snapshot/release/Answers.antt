-- The version before the others is released first.
use Rattle.std.proofs.Common.{◌∙◌, ℕ, List, ap, subst, sym}
use Rattle.oai_catalogue.specs.Store.{VersionLists}
use Rattle.oai_repo.specs.Fields.{AreInUse}
use Rattle.oai_snapshots.specs.Snapshots.{SnapshotFields, numbers_of_snapshot, versions_of, without_lists}
use Rattle.oai_snapshots.proofs.TakingLemmas.{before_stands, rest_stands, without_both}
use Rattle.oai_snapshots.proofs.snapshots.Snapshot.release.Goals as goal

pub release_if-requires : goal.release_if-requires
release_if-requires g c =
    let lists : VersionLists = g.V.Versions.lists c.args.store.now in
    before_stands c.self.inside.before (versions_of c.self.inside.versions.items) lists
    (subst (λ (s : SnapshotFields). AreInUse (numbers_of_snapshot s) lists) (sym c.self.view_is) c.requires)

pub release_each-requires : goal.release_each-requires
release_each-requires g c =
    let lists : VersionLists = g.V.Versions.lists c.args.store.now in
    let numbers : List ℕ = versions_of c.self.inside.versions.items in
    subst (AreInUse numbers) (sym c.release_if.ensures.released)
    (rest_stands c.self.inside.before numbers lists (subst (λ (s : SnapshotFields). AreInUse (numbers_of_snapshot s) lists) (sym c.self.view_is) c.requires))

pub returns-clause-released : goal.returns-clause-released
returns-clause-released g c =
    let lists : VersionLists = g.V.Versions.lists c.args.store.now in
    let numbers : List ℕ = versions_of c.self.inside.versions.items in
    c.release_each.ensures.released
    ∙ ap (without_lists numbers) c.release_if.ensures.released
    ∙ without_both c.self.inside.before numbers lists
    ∙ ap (λ (s : SnapshotFields). without_lists (numbers_of_snapshot s) lists) c.self.view_is
