-- First the clock, then the sets, then the versions.
use Rattle.std.proofs.Common.{◌≡◌, ◌∙◌, ◌<◌, ◌≤◌, rules, true, ap, subst, sym}
use Rattle.oai_snapshots.specs.Batches.{parts_of_batch}
use Rattle.oai_snapshots.specs.Snapshots.{HandsOut, SnapshotFields}
use Rattle.oai_snapshots.specs.declared.batches.Batch.{Batch}
use Rattle.oai_snapshots.specs.declared.batches.Batch.TheVariants.{HasSet}
use Rattle.oai_snapshots.proofs.PassingLemmas.{hands_set, none_left}
use Rattle.oai_snapshots.proofs.snapshots.Snapshot.next.Goals as goal

pub returns-then-self-clause-handed : goal.returns-then-self-clause-handed
returns-then-self-clause-handed g c honest sets =
    let lists = g.V.Versions.lists c.args.store.now in
    let old : SnapshotFields = c.args.self.now in
    let begun : c.self.inside.begun ≡ true = search rules in
    let same : old.begun ≡ c.self.inside.begun = sym (ap (λ (s : SnapshotFields). s.begun) c.self.view_is) in
    subst (λ (batch : Batch). HandsOut sets lists old (parts_of_batch sets batch) c.next_set.new.self) (sym c.next_set.ensures.batch)
    (subst (λ (new : SnapshotFields). HandsOut sets lists old (parts_of_batch sets (HasSet old.given)) new) (sym c.next_set.ensures.given)
    (hands_set sets lists old (same ∙ begun) (subst (λ (s : SnapshotFields). s.given < s.sets) c.self.view_is c.if-self.true)))

pub returns-in-None-clause-none : goal.returns-in-None-clause-none
returns-in-None-clause-none g c =
    let old : SnapshotFields = c.args.self.now in
    let begun : c.self.inside.begun ≡ true = search rules in
    let same : old.begun ≡ c.self.inside.begun = sym (ap (λ (s : SnapshotFields). s.begun) c.self.view_is) in
    none_left old (same ∙ begun) (subst (λ (s : SnapshotFields). s.sets ≤ s.given) c.self.view_is c.if-self.false) (sym c.in-None.is ∙ c.first_version.ensures)
