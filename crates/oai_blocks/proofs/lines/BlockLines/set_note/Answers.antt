use Rattle.std.proofs.Common.{◌≡◌, Some, sym, ap}
use Rattle.oai_blocks.specs.Blocks.{BlockState, block_at}
use Rattle.oai_blocks.proofs.ShelfLemmas.{set_is, weight_same}
use Rattle.oai_blocks.proofs.lines.BlockLines.set_note.Goals as goal

pub returns-clause-weight : goal.returns-clause-weight
returns-clause-weight g c weigh =
    let old = c.args.self.now.blocks.slots in
    let k = c.number_of-number.result in
    let was : BlockState g.row.T.Denot g.row.S.Denot = c.in-Some.block.now in
    let stood : block_at old k ≡ Some was = sym c.in-Some.ensures.value in
    weight_same old _ k was _ stood (ap (λ (b : BlockState g.row.T.Denot g.row.S.Denot). b.items) c.block.view_is) (set_is old k was _ stood) weigh
