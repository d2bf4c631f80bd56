-- The first is the one that is released.
use Rattle.std.proofs.Common.{◌∙◌, List, subst, sym}
use Rattle.oai_repo.specs.Fields.{AreInUse}
use Rattle.oai_snapshots.specs.Snapshots.{SnapshotFields, numbers_of_snapshot}
use Rattle.oai_host.specs.HostSnapshots.{numbers_of_snapshots}
use Rattle.oai_host.proofs.InUseLemmas.{in_use_parts}
use Rattle.oai_host.proofs.host_snapshots.HostSnapshots.release_first.Goals as goal

pub release-requires : goal.release-requires
release-requires g c =
    let lists = g.V.Versions.lists c.args.store.now in
    let others : List SnapshotFields = c.pop_front.new.self.items in
    (in_use_parts (numbers_of_snapshot c.in-Some.first) (numbers_of_snapshots others) lists
    (subst (λ (all : List SnapshotFields). AreInUse (numbers_of_snapshots all) lists) (sym c.self.view_is ∙ c.in-Some.ensures.items) c.requires)).first
