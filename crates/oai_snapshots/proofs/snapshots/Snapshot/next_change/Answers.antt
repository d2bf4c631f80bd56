-- What was read is handed out, and the place is moved or the version passed.
use Rattle.std.proofs.Common.{◌∙◌, [], None, Option, ap, subst, sym}
use Rattle.oai_catalogue.specs.Store.{list_at}
use Rattle.oai_snapshots.specs.Passing.{HandsOutChange}
use Rattle.oai_snapshots.specs.Reading.{AreNextDifferences}
use Rattle.oai_snapshots.specs.Snapshots.{SnapshotFields, items_before, with_before, without_lists}
use Rattle.oai_snapshots.specs.declared.batches.Batch.TheVariants as batch
use Rattle.oai_snapshots.specs.declared.places.DifferencePlace.{DifferencePlace}
use Rattle.oai_snapshots.specs.declared.places.Differences.{Differences}
use Rattle.oai_snapshots.specs.declared.places.Differences.TheVariants.{Come}
use Rattle.oai_snapshots.proofs.PassingLemmas.{change_comes, change_goes, change_passes, first_found, leaves_passed}
use Rattle.oai_snapshots.proofs.snapshots.Snapshot.next_change.Goals as goal

pub returns-in-Go-clause-changes : goal.returns-in-Go-clause-changes
returns-in-Go-clause-changes g c honest =
    let old : SnapshotFields = c.args.self.now in
    let lists = g.V.Versions.lists c.args.store.now in
    let next = subst (λ (d : Differences). AreNextDifferences old.place (items_before lists old.before) (list_at lists c.args.version) d) c.in-Go.is (c.in_ok-read.ensures.read honest) in
    subst (λ (n : SnapshotFields). HandsOutChange lists old (batch.Gone c.in-Go.items) n) (sym c.move_to.ensures)
    (change_goes lists old c.args.version c.in-Go.items c.in-Go.place (first_found c.args.version old.versions c.requires.first) next)

pub returns-in-Some-clause-changes : goal.returns-in-Some-clause-changes
returns-in-Some-clause-changes g c honest =
    let old : SnapshotFields = c.args.self.now in
    let lists = g.V.Versions.lists c.args.store.now in
    let read = subst (λ (d : Differences). AreNextDifferences old.place (items_before lists old.before) (list_at lists c.args.version) d) c.in-Come.is (c.in_ok-read.ensures.read honest) in
    let next = subst (λ (o : Option DifferencePlace). AreNextDifferences old.place (items_before lists old.before) (list_at lists c.args.version) (Come c.in-Come.items o)) c.in-Some.is read in
    subst (λ (n : SnapshotFields). HandsOutChange lists old (batch.Come c.in-Come.items None) n) (sym c.move_to-in-Some.ensures)
    (change_comes lists old c.args.version c.in-Come.items c.in-Some.place (first_found c.args.version old.versions c.requires.first) next)

pub returns-in-None-clause-leaves : goal.returns-in-None-clause-leaves
returns-in-None-clause-leaves g c =
    let V = g.V.Versions in
    let old : SnapshotFields = c.args.self.now in
    leaves_passed (V.honest c.args.store.now) old c.pass_first-list.new.self c.pass_first-list.result (V.lists c.args.store.now) (V.lists c.pass_first-list.new.store) c.requires.holds c.pass_first-list.ensures.passed
    (c.pass_first-list.ensures.released ∙ ap (without_lists (with_before old.before [])) c.in_ok-read.ensures.reads.same)

pub returns-in-None-clause-changes : goal.returns-in-None-clause-changes
returns-in-None-clause-changes g c honest =
    let old : SnapshotFields = c.args.self.now in
    let lists = g.V.Versions.lists c.args.store.now in
    let read = subst (λ (d : Differences). AreNextDifferences old.place (items_before lists old.before) (list_at lists c.args.version) d) c.in-Come.is (c.in_ok-read.ensures.read honest) in
    let next = subst (λ (o : Option DifferencePlace). AreNextDifferences old.place (items_before lists old.before) (list_at lists c.args.version) (Come c.in-Come.items o)) c.in-None.is read in
    change_passes lists old c.args.version c.in-Come.items c.pass_first-list.result c.pass_first-list.new.self (first_found c.args.version old.versions c.requires.first) next c.pass_first-list.ensures.passed
