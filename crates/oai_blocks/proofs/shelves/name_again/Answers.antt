use Rattle.std.proofs.Common.{◌≡◌, ◌+◌, Some, sym, ap}
use Rattle.oai_blocks.specs.Blocks.{BlockState, block_at}
use Rattle.oai_blocks.proofs.ShelfLemmas.{named_more, set_is}
use Rattle.oai_blocks.proofs.shelves.name_again.Goals as goal

pub returns : goal.returns
returns g c =
    let old = c.args.blocks.now.slots in
    let was : BlockState g.row.T.Denot g.row.S.Denot = c.in-Some.block.now in
    let stood : block_at old c.args.number ≡ Some was = sym c.in-Some.ensures.value in
    let seen = c.block.view_is in
    named_more old _ c.args.number was _ stood (ap (λ (b : BlockState g.row.T.Denot g.row.S.Denot). b.items) seen)
    (ap (λ (b : BlockState g.row.T.Denot g.row.S.Denot). b.names + 1) seen) (ap (λ (b : BlockState g.row.T.Denot g.row.S.Denot). b.note) seen) (set_is old c.args.number was _ stood)
