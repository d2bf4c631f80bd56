-- Each turn freezes one more.
use Rattle.std.proofs.Common.{◌∙◌, List, [], ◌∷◌, ◌++◌, append_assoc, length, length-append, sym, ap, arith, subst}
use Rattle.std.specs.Vec.Iter.{into_iter_items}
use Rattle.oai_snapshots.specs.Taking.{HasFrozen}
use Rattle.oai_snapshots.specs.declared.versions.SnapshotVersion.{SnapshotVersion}
use Rattle.oai_snapshots.proofs.TakingLemmas.{frozen_next, next_used}
use Rattle.oai_snapshots.proofs.freezing.freeze_each.Goals as goal

pub sources-preserved : goal.sources-preserved
sources-preserved g c =
    let V = g.V.Versions in
    let so_far = c.sources.invariant in
    let front : List SnapshotVersion = so_far.0 in
    let source : SnapshotVersion = c.in-Some.source in
    let rest : List SnapshotVersion = into_iter_items c.next.new.self in
    let steps = c.in-Some.ensures.steps.0 in
    let cut = so_far.1 ∙ ap (λ (xs : List SnapshotVersion). front ++ xs) steps in
    let long = length-append front (source ∷ []) in
    let frozen = c.in_ok-frozen.ensures in (
      front ++ source ∷ [],
      cut ∙ sym (append_assoc front (source ∷ []) rest),
      let was = so_far.2 in let gone = c.in-Some.ensures.steps.1 in let short = ap length steps in omega arith,
      subst (λ (vs : List SnapshotVersion). HasFrozen (front ++ source ∷ []) (V.lists c.args.store.now) vs (V.lists c.freeze_version.new.store)) (sym c.append.ensures)
          (subst (λ (vs : List SnapshotVersion). HasFrozen (front ++ source ∷ []) (V.lists c.args.store.now) (vs ++ c.in_ok-frozen.frozen ∷ []) (V.lists c.freeze_version.new.store)) (sym c.in_ok-try_reserve.ensures.items)
          (frozen_next front source (V.lists c.args.store.now) c.sources.versions.items (V.lists c.sources.store) c.in_ok-frozen.frozen (V.lists c.freeze_version.new.store) so_far.3
          (next_used (V.lists c.args.store.now) c.args.sources.items front source rest cut c.requires.used)
          frozen.unused frozen.list frozen.ok)),
      record {
        room = record { enough = tt; used = let used = so_far.4.room.used in let more = frozen.store.room.used in omega (arith, used, more, long) };
        device = record { count = let first = so_far.4.device.count in let second = frozen.store.device.count in omega (arith, first, second); device = tt };
        honesty = record { same = frozen.store.honesty.same ∙ so_far.4.honesty.same; damaged = tt };
      },
    )
