use Rattle.std.proofs.Common.{List, ℕ, [], arith, refl, subst}
use Rattle.std.proofs.lemmas.List.{take_all}
use Rattle.oai_places.specs.Recounts.{Recounts}
use Rattle.oai_places.proofs.RecountLemmas.{dropped_more, spares_from, spares_none, spares_then, named_after_drops, recounts_dropped, recounts_none}
use Rattle.oai_places.proofs.names.drop_numbers.Goals as goal

pub loop-number-init : goal.loop-number-init
loop-number-init g c = record {
  names = recounts_none g.P.PagePool c.args.pages.now;
  pool = spares_none g.P.PagePool c.args.pages.now;
}

pub drop_ref-requires : goal.drop_ref-requires
drop_ref-requires g c =
    named_after_drops g.P.PagePool c.loop-number.number-index _ c.args.numbers.now c.args.pages.now c.loop-number.pages
    c.loop-number-test.true refl c.requires
    c.loop-number.invariant.names

pub loop-number-preserved : goal.loop-number-preserved
loop-number-preserved g c =
    let G = g.P.PagePool in
    let p = c.args.pages.now in
    let q = c.loop-number.pages in
    let r = c.drop_ref.new.self in
    record {
      names = dropped_more G c.loop-number.number-index _ c.args.numbers.now p q r c.loop-number-test.true refl
          c.loop-number.invariant.names
          (recounts_dropped G _ q r c.drop_ref.ensures.counts c.drop_ref.ensures.kept);
      pool = spares_then G p q r c.loop-number.invariant.pool (spares_from G q r c.drop_ref.ensures.pool);
    }

pub returns : goal.returns
returns g c = record {
  names = subst (λ (some : List ℕ). Recounts g.P.PagePool some [] c.args.pages.now c.loop-number.pages)
      (take_all c.loop-number.number-index c.args.numbers.now (omega arith)) c.loop-number.invariant.names;
  pool = c.loop-number.invariant.pool;
}
