use Rattle.std.proofs.Common.{List, ℕ, [], ◌∙◌, ap, arith, refl, subst, take}
use Rattle.std.proofs.lemmas.List.{take_all}
use Rattle.oai_places.specs.Calls.{fault_of}
use Rattle.oai_places.specs.Recounts.{Recounts}
use Rattle.oai_places.proofs.RecountLemmas.{spares_from, spares_none, spares_then, full_after_shares, named_after_shares, named_while_shared, recounts_none, recounts_same, recounts_shared, shared_more, undone_after}
use Rattle.oai_places.proofs.names.share_numbers.Goals as goal

pub loop-at-init : goal.loop-at-init
loop-at-init g c = record {
  names = recounts_none g.P.PagePool c.args.pages.now;
  pool = spares_none g.P.PagePool c.args.pages.now;
}

pub share-requires : goal.share-requires
share-requires g c =
    named_after_shares g.P.PagePool c.loop-at.at _ c.args.numbers.now c.args.pages.now c.loop-at.pages c.loop-at-test.true refl
    c.requires.named
    c.loop-at.invariant.names

pub loop-at-preserved : goal.loop-at-preserved
loop-at-preserved g c =
    let G = g.P.PagePool in
    let p = c.args.pages.now in
    let q = c.loop-at.pages in
    let r = c.share.new.self in
    record {
      names = shared_more G c.loop-at.at _ c.args.numbers.now p q r c.loop-at-test.true refl c.loop-at.invariant.names
          (recounts_shared G _ q r c.in-Ok.ensures.counts c.share.ensures.same);
      pool = spares_then G p q r c.loop-at.invariant.pool (spares_from G q r c.share.ensures.pool);
    }

pub drop_numbers-requires : goal.drop_numbers-requires
drop_numbers-requires g c =
    let G = g.P.PagePool in
    let q = c.loop-at.pages in
    let r = c.share.new.self in
    named_while_shared G (take c.loop-at.at c.args.numbers.now) c.args.pages.now q r c.loop-at.invariant.names
    (recounts_same G q r c.in-Err.ensures.err c.share.ensures.same)

pub returns-in-Err : goal.returns-in-Err
returns-in-Err g c =
    let G = g.P.PagePool in
    let p = c.args.pages.now in
    let q = c.loop-at.pages in
    let r = c.share.new.self in
    let s = c.drop_numbers.new.pages in
    record {
      names = tt;
      undone = undone_after G (take c.loop-at.at c.args.numbers.now) p q r s c.loop-at.invariant.names
          (recounts_same G q r c.in-Err.ensures.err c.share.ensures.same) c.drop_numbers.ensures.names;
      fault = c.fault_of.ensures ∙ ap fault_of c.in-Err.ensures.fault;
      full = full_after_shares G c.loop-at.at _ c.args.numbers.now p q c.loop-at-test.true refl c.requires.once c.loop-at.invariant.names
          c.in-Err.ensures.full;
      pool = spares_then G p q s c.loop-at.invariant.pool (spares_then G q r s (spares_from G q r c.share.ensures.pool)
          c.drop_numbers.ensures.pool);
    }

pub returns : goal.returns
returns g c = record {
  names = subst (λ (some : List ℕ). Recounts g.P.PagePool [] some c.args.pages.now c.loop-at.pages)
      (take_all c.loop-at.at c.args.numbers.now (omega arith)) c.loop-at.invariant.names;
  undone = tt;
  fault = tt;
  full = tt;
  pool = c.loop-at.invariant.pool;
}
