use Rattle.std.proofs.Common.{rules, ◌≡◌, ◌+◌, ◌<ℤ◌, ◌≤ℤ◌, ℕ, ℤ, FitsSigned, List, Some, arith, subst, sym, take, w64}
use Rattle.std.proofs.lemmas.Int.{ints, to_z-of_z}
use Rattle.oai_lists.specs.declared.open_lists.OpenList.{OpenList}
use Rattle.oai_lists.specs.HeldTable.{earlier}
use Rattle.oai_lists.specs.OpenLists.{IsEarliest, open_ones}
use Rattle.oai_lists.proofs.Ends.{closed_test, earliest_kept, earliest_more, open_test}
use Rattle.oai_lists.proofs.lists.earliest.Goals as goal
use Rattle.oai_lists.proofs.lists.earliest.Goals.{then-now-list, else-now-list}

pub loop-list-preserved : goal.loop-list-preserved
loop-list-preserved c =
    let fits : FitsSigned w64 c.args.now = c.ranges.now in
    let now : ℤ = c.args.now in
    let lists : List OpenList = c.args.lists.now in
    let i : ℕ = c.loop-list.list-index in
    let x : OpenList = c.list-item.result in
    let fits_end : FitsSigned w64 x.end = search rules in
    let so_far = simp to_z-of_z at c.loop-list.invariant in
    elim c.if-now-list.branch [
      | then-now-list w ↦
          let later : now <ℤ x.end = omega (arith, ints, w.if-now-list.true) in
          let fits_earlier : FitsSigned w64 w.earlier.result = record { sfits = w.earlier.type_inv } in
          let is : w.earlier.result ≡ earlier c.loop-list.earliest x.end = simp to_z-of_z at w.earlier.ensures in
          let more : IsEarliest (open_ones now (take (i + 1) lists)) (Some w.earlier.result) =
          subst (λ (m : ℤ). IsEarliest (open_ones now (take (i + 1) lists)) (Some m)) (sym is)
          (earliest_more now lists i x c.loop-list.earliest c.loop-list-test.true c.list-item.is (open_test now x later) so_far)
          in
          rw w.earliest-is (simp to_z-of_z more)
      | else-now-list w ↦
          let over : x.end ≤ℤ now = omega (arith, ints, w.if-now-list.false) in
          simp to_z-of_z (rw w.earliest-is (earliest_kept now lists i x c.loop-list.earliest c.loop-list-test.true c.list-item.is (closed_test now x over) so_far))
    ]
