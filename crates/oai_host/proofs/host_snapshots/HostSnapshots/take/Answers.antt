-- The snapshots are the repositories' own, and none of their numbers is a repository's.
use Rattle.oai_host.proofs.HostSnapshotLemmas.{holds_taken}
use Rattle.oai_host.proofs.host_snapshots.HostSnapshots.take.Goals as goal

pub returns-in-Ok-clause-holds : goal.returns-in-Ok-clause-holds
returns-in-Ok-clause-holds g c =
    let V = g.V.Versions in
    holds_taken (V.honest c.args.store.now) c.args.repos.now (V.lists c.args.store.now) c.take_each.new.snapshots.items (V.lists c.take_each.new.store) c.requires.stand c.in-Ok.ensures.taken
