-- All records, one after the other.
use Rattle.std.proofs.Common.{◌++◌, ◌∷◌, []}
use Rattle.oai_durable.proofs.RedoneLemmas.{one_more}
use Rattle.oai_archive.proofs.verify.read_rest.Goals as goal

pub returns-then-not-branch-clause-whole : goal.returns-then-not-branch-clause-whole
returns-then-not-branch-clause-whole g c = λ clean begun.
    let had = c.loop-count.invariant.0 (c.read_next.ensures.clean clean) begun.0 begun.1 in
    let ends = c.in_ok-read_next.ensures.end clean begun.0 had.0 had.2 c.if-not-branch.true in
    record { first = begun.0; entries = had.0; many = had.1; whole = ends.1 }

pub loop-count-preserved : goal.loop-count-preserved
loop-count-preserved g c = (
  (λ clean first begun.
      let had = c.loop-count.invariant.0 (c.read_next.ensures.clean clean) first begun in
      let more = c.in_ok-read_next.ensures.next clean first had.0 had.2 c.if-not-branch.false in
      (had.0 ++ more.0 ∷ [], one_more c.loop-count.count had.0 more.0 had.1, more.1)),
  (λ clean. c.loop-count.invariant.1 (c.read_next.ensures.clean clean)),
)
