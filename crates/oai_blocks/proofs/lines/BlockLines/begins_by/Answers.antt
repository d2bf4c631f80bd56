use Rattle.std.proofs.Common.{refl}
use Rattle.std.specs.Fn.{FnReturnsAt}
use Rattle.oai_blocks.specs.Store.{block_of}
use Rattle.oai_blocks.proofs.ElementLemmas.{begins}
use Rattle.oai_blocks.proofs.lines.BlockLines.begins_by.Goals as goal

pub returns-in-Some : goal.returns-in-Some
returns-in-Some g c =
    begins (FnReturnsAt g.F.Fn c.args.holds.now) (block_of c.args.self.now c.args.v c.args.j) c.block.result.now c.in-Some.first.now c.holds.result c.block.ensures c.in-Some.ensures.value
    (record { shown = c.in-Some.first; shows = refl; says = record { met = c.holds.ensures } })
