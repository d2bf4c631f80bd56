-- Each turn releases the first of those that are left.
use Rattle.std.proofs.Common.{◌≡◌, ◌∙◌, List, arith, refl, rules, subst, sym}
use Rattle.oai_repo.specs.Fields.{AreInUse}
use Rattle.oai_snapshots.specs.Snapshots.{SnapshotFields, numbers_of_snapshot}
use Rattle.oai_snapshots.proofs.TakingLemmas.{nothing_left}
use Rattle.oai_host.specs.HostSnapshots.{numbers_of_snapshots}
use Rattle.oai_host.proofs.InUseLemmas.{in_use_parts}
use Rattle.oai_host.proofs.HostSnapshotLemmas.{releasing_ends, releasing_next}
use Rattle.oai_host.proofs.host_snapshots.release_each.Goals as goal

pub snapshots-init : goal.snapshots-init
snapshots-init g c = record { stands = c.requires; released = refl; spares = record { room = omega arith; count = refl; honesty = refl } }

pub release-requires : goal.release-requires
release-requires g c =
    let lists = g.V.Versions.lists c.snapshots.store in
    let others : List SnapshotFields = c.pop_front.new.self.items in
    (in_use_parts (numbers_of_snapshot c.in-Some.snapshot) (numbers_of_snapshots others) lists
    (subst (λ (all : List SnapshotFields). AreInUse (numbers_of_snapshots all) lists) c.in-Some.ensures.items c.snapshots.invariant.stands)).first

pub snapshots-preserved : goal.snapshots-preserved
snapshots-preserved g c =
    releasing_next g.V.Versions c.args.left.now.items c.args.store.now c.snapshots.left.items c.snapshots.store c.in-Some.snapshot c.pop_front.new.self.items c.release.new.store c.snapshots.invariant
    c.in-Some.ensures.items c.release.ensures.released c.release.ensures.store

pub returns-clause-released : goal.returns-clause-released
returns-clause-released g c =
    let ends : c.snapshots.left.len ≡ 0 = search rules in
    releasing_ends g.V.Versions c.args.left.now.items c.args.store.now c.snapshots.left.items c.snapshots.store c.snapshots.invariant
    (nothing_left c.snapshots.left.items (sym c.snapshots.left.ok.0 ∙ ends))

pub returns-clause-none : goal.returns-clause-none
returns-clause-none g c =
    let ends : c.pop_front.new.self.len ≡ 0 = search rules in
    nothing_left c.pop_front.new.self.items (sym c.pop_front.new.self.ok.0 ∙ ends)
