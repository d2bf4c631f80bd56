-- Each turn releases the first of those that are left.
use Rattle.std.proofs.Common.{◌≡◌, ◌∙◌, List, refl, sym, arith, rules, subst}
use Rattle.oai_repo.specs.Fields.{AreInUse}
use Rattle.oai_snapshots.specs.Snapshots.{versions_of}
use Rattle.oai_snapshots.specs.declared.versions.SnapshotVersion.{SnapshotVersion}
use Rattle.oai_snapshots.proofs.TakingLemmas.{first_stands, nothing_left, releasing_ends, releasing_next}
use Rattle.oai_snapshots.proofs.freezing.release_each.Goals as goal

pub versions-init : goal.versions-init
versions-init g c = record { stands = c.requires; released = refl; spares = record { room = omega arith; count = refl; honesty = refl } }

pub release-requires : goal.release-requires
release-requires g c =
    let lists = g.V.Versions.lists c.versions.store in
    first_stands c.in-Some.frozen.version (versions_of c.pop_front.new.self.items) lists
    (subst (λ (vs : List SnapshotVersion). AreInUse (versions_of vs) lists) c.in-Some.ensures.items c.versions.invariant.stands)

pub versions-preserved : goal.versions-preserved
versions-preserved g c =
    releasing_next g.V.Versions c.args.versions.items c.args.store.now c.versions.left.items c.versions.store c.in-Some.frozen c.pop_front.new.self.items c.release.new.self c.versions.invariant
    c.in-Some.ensures.items c.release.ensures.ok c.release.ensures.store

pub versions-preserved-in-Some : goal.versions-preserved-in-Some
versions-preserved-in-Some g c =
    releasing_next g.V.Versions c.args.versions.items c.args.store.now c.versions.left.items c.versions.store c.in-Some.frozen c.pop_front.new.self.items c.release.new.self c.versions.invariant
    c.in-Some.ensures.items c.release.ensures.ok c.release.ensures.store

pub versions-preserved-in-Some-2 : goal.versions-preserved-in-Some-2
versions-preserved-in-Some-2 g c =
    releasing_next g.V.Versions c.args.versions.items c.args.store.now c.versions.left.items c.versions.store c.in-Some.frozen c.pop_front.new.self.items c.release.new.self c.versions.invariant
    c.in-Some.ensures.items c.release.ensures.ok c.release.ensures.store

pub returns-clause-released : goal.returns-clause-released
returns-clause-released g c =
    let ends : c.versions.left.len ≡ 0 = search rules in
    releasing_ends g.V.Versions c.args.versions.items c.args.store.now c.versions.left.items c.versions.store c.versions.invariant
    (nothing_left c.versions.left.items (sym c.versions.left.ok.0 ∙ ends))
