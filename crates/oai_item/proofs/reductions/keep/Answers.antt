use Rattle.std.proofs.Common.{◌≡◌, ◌∙◌, List, [], ℕ, length, arith}
use Rattle.oai_item.proofs.Flagged.{Keeps-all, Keeps-goes, Keeps-stays}
use Rattle.oai_item.proofs.reductions.keep.Goals as goal
use Rattle.oai_item.proofs.reductions.keep.Goals.{then-stay-at, else-stay-at}

pub loop-at-preserved : goal.loop-at-preserved
loop-at-preserved c =
    let long : length c.args.stay.now ≡ length c.args.sets.now.items = omega (arith, c.requires, c.args.sets.now.ok.0) in
    elim c.if-stay-at.branch [
      | then-stay-at w ↦ rw (w.sets-is, w.kept-is, w.swap.ensures.items)
          (Keeps-stays {X = List ℕ} c.args.stay.now c.args.sets.now.items c.loop-at.sets.items c.loop-at.kept c.loop-at.at [] c.loop-at-test.true long w.if-stay-at.true c.loop-at.invariant)
      | else-stay-at w ↦ rw (w.sets-is, w.kept-is)
          (Keeps-goes {X = List ℕ} c.args.stay.now c.args.sets.now.items c.loop-at.sets.items c.loop-at.kept c.loop-at.at [] c.loop-at-test.true long w.if-stay-at.false c.loop-at.invariant)
    ]

pub returns : goal.returns
returns c =
    let long : length c.args.stay.now ≡ length c.args.sets.now.items = omega (arith, c.requires, c.args.sets.now.ok.0) in
    c.truncate.ensures.items ∙ Keeps-all {X = List ℕ} c.args.stay.now c.args.sets.now.items c.loop-at.sets.items c.loop-at.kept c.loop-at.at (omega arith) long c.loop-at.invariant
