use Rattle.std.proofs.Common.{rules, ◌∙◌, ◌<ℤ◌, ◌<◌, ◌≤◌, FitsSigned, ap, arith, length, sym, w64}
use Rattle.std.specs.Prelude.{nat_le}
use Rattle.std.proofs.lemmas.Int.{ints}
use Rattle.oai_lists.specs.OpenLists.{Table, open_ones}
use Rattle.oai_lists.proofs.Ends.{full, not_full}
use Rattle.oai_lists.proofs.lists.Lists.is_full.Goals as goal

pub returns-then-held-self : goal.returns-then-held-self
returns-then-held-self c =
    let few : length c.self.inside.lists.items < c.self.inside.limit = omega (arith, c.if-held-self.true, c.len-held.ensures, c.self.inside.lists.ok.0) in
    sym (ap (λ (t : Table). nat_le t.limit (length (open_ones c.args.now t.lists))) (sym c.self.view_is) ∙ not_full c.self.inside.limit c.args.now c.self.inside.lists.items few)

pub returns-then-now-self : goal.returns-then-now-self
returns-then-now-self c =
    let fits : FitsSigned w64 c.args.now = c.ranges.now in
    let fits_end : FitsSigned w64 c.self.inside.earliest = search rules in
    let many : c.self.inside.limit ≤ length c.self.inside.lists.items = omega (arith, c.if-held-self.false, c.len-held.ensures, c.self.inside.lists.ok.0) in
    let early : c.args.now <ℤ c.self.inside.earliest = omega (arith, ints, c.if-now-self.true) in
    sym (ap (λ (t : Table). nat_le t.limit (length (open_ones c.args.now t.lists))) (sym c.self.view_is) ∙ full c.self.inside.limit c.self.inside.earliest c.args.now c.self.inside.lists.items c.self.invariant.bound early many)
