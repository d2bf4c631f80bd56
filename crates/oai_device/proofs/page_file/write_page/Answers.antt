-- A call writes on behind what was written.
use Rattle.std.proofs.Common.{◌-◌, ◌≤◌, List, ℕ, length, subst, arith, ◌∙◌}
use Rattle.std.proofs.lemmas.List.{length-take, take_all}
use Rattle.oai_device.specs.PageFile.{Stand}
use Rattle.oai_device.proofs.PageFileLemmas.{keeps_next, moved_within, write_on}
use Rattle.oai_device.proofs.page_file.write_page.Goals as goal
use borrow.Rule.Slice.PartMut.{mid_of}

pub returns-then-done-eq-PAGE_BYTES-clause-written :
    goal.returns-then-done-eq-PAGE_BYTES-clause-written
returns-then-done-eq-PAGE_BYTES-clause-written g c = λ _ honest.
    subst (λ (xs : List ℕ). Stand (g.F.PageFile.bytes c.write_some.new.self) c.args.offset xs) (take_all _ c.args.page.now (omega (arith, c.told-page, c.if-done-eq-PAGE_BYTES.true)))
    (write_on _ _ _ _ _ _ _ _ _ _ c.loop.invariant.honesty (omega (arith, c.told-page)) c.in-Some.ensures
    c.write_some.ensures.count c.write_some.ensures.written c.write_some.ensures.others c.loop.invariant.written honest)

pub loop-preserved : goal.loop-preserved
loop-preserved g c = record {
  within =
      let moved : c.in-Some.count ≤ length (mid_of c.loop.done (16384 - c.loop.done) c.args.page.now) = moved_within _ _ _ c.in-Some.ensures c.write_some.ensures.count in
      omega (arith, length-take {A = ℕ});
  written = λ honest. write_on _ _ _ _ _ _ _ _ _ _ c.loop.invariant.honesty (omega (arith, c.told-page)) c.in-Some.ensures
      c.write_some.ensures.count c.write_some.ensures.written c.write_some.ensures.others c.loop.invariant.written honest;
  others = keeps_next _ _ _ _ _ _ _ (omega (arith, length-take {A = ℕ})) c.loop.invariant.others c.write_some.ensures.others;
  honesty = c.write_some.ensures.honesty ∙ c.loop.invariant.honesty;
}
