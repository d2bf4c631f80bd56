-- All snapshots are released, and no repository loses a list.
use Rattle.std.proofs.Common.{◌∙◌, ap}
use Rattle.oai_host.specs.Hosts.{HostState}
use Rattle.oai_host.proofs.HostSnapshotLemmas.{none_left_in, repos_released}
use Rattle.oai_host.proofs.host.Host.stop_saving.Goals as goal

pub invariant_of-self-inside : goal.invariant_of-self-inside
invariant_of-self-inside g c =
    let V = g.V.Versions in
    let host = c.self.inside in
    let store = c.release.new.store in
    let kept = repos_released (V.honest host.store) (V.honest store) host.repositories host.snapshots c.release.new.self (V.lists host.store) (V.lists store) c.release.ensures.store.honesty host.left c.release.ensures.none c.release.ensures.released host.repos in
    (kept.0, (kept.1.0, tt))

pub returns-clause-unsaved : goal.returns-clause-unsaved
returns-clause-unsaved g c =
    let V = g.V.Versions in
    rw c.release.ensures.none (none_left_in c.self.inside.repositories (V.lists c.release.new.store))

pub returns-clause-same : goal.returns-clause-same
returns-clause-same g c =
    let V = g.V.Versions in
    let host = c.self.inside in
    let store = c.release.new.store in
    (repos_released (V.honest host.store) (V.honest store) host.repositories host.snapshots c.release.new.self (V.lists host.store) (V.lists store) c.release.ensures.store.honesty host.left c.release.ensures.none c.release.ensures.released host.repos).1.1
    ∙ ap (λ (h : HostState). h.repositories) c.self.view_is
