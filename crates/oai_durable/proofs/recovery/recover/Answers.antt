-- All records, one after the other.
use Rattle.std.proofs.Common.{◌∙◌, ◌++◌, ◌∷◌, []}
use Rattle.oai_durable.proofs.RedoneLemmas.{one_more}
use Rattle.oai_durable.proofs.recovery.recover.Goals as goal

pub returns-in-Ok-false-clause-recovered : goal.returns-in-Ok-false-clause-recovered
returns-in-Ok-false-clause-recovered g c = λ clean first begun.
    let had = c.loop-count.invariant.3 (c.redo_next.ensures.clean clean) first begun in
    let ends = c.in-Ok-false.ensures.end c.in-Ok-false.field-0-test clean (g.H.Replayed.kept c.args.handler.now) first had.0 had.2 in
    record { entries = had.0; many = had.1; has = ends.0; undamaged = ends.1 }

pub returns-in-Err-clause-damaged : goal.returns-in-Err-clause-damaged
returns-in-Err-clause-damaged g c = λ clean first begun.
    let had = c.loop-count.invariant.3 (c.redo_next.ensures.clean clean) first begun in
    c.in-Err.ensures.damaged clean first had.0 had.2.read

pub loop-count-preserved : goal.loop-count-preserved
loop-count-preserved g c = (
  c.redo_next.ensures.honesty ∙ c.loop-count.invariant.0,
  c.redo_next.ensures.seen ∙ c.loop-count.invariant.1,
  (λ file left. c.loop-count.invariant.2 file (c.redo_next.ensures.crash file left)),
  (λ clean first begun.
      let had = c.loop-count.invariant.3 (c.redo_next.ensures.clean clean) first begun in
      let more = c.in-Ok-true.ensures.next c.in-Ok-true.field-0-test clean (g.H.Replayed.kept c.args.handler.now) first had.0 had.2 in
      (had.0 ++ more.0 ∷ [], one_more c.loop-count.count had.0 more.0 had.1, more.1)),
  (λ clean. c.loop-count.invariant.4 (c.redo_next.ensures.clean clean)),
)
