use Rattle.std.proofs.Common.{◌≡◌, ◌∙◌, List, Some, length, ap, sym, arith}
use Rattle.std.specs.Prelude.{vec_capacity, vec_len}
use Rattle.oai_blocks.specs.Blocks.{BlockState, block_at, items_at, items_in, room_at, room_in}
use Rattle.oai_blocks.proofs.ShelfLemmas.{alters_set}
use Rattle.oai_blocks.proofs.shelves.reserve_items.Goals as goal

pub returns-clause-alters : goal.returns-clause-alters
returns-clause-alters g c =
    let old = c.args.blocks.now.slots in
    let k = c.args.number in
    let was : BlockState g.row.T.Denot g.row.S.Denot = c.in-Some.block.now in
    let stood : block_at old k ≡ Some was = sym c.in-Some.ensures.value in
    let names : c.block.inside.names ≡ was.names = ap (λ (b : BlockState g.row.T.Denot g.row.S.Denot). b.names) c.block.view_is in
    let items : c.block.inside.items.items ≡ items_at old k = ap (λ (b : BlockState g.row.T.Denot g.row.S.Denot). b.items) c.block.view_is ∙ sym (ap items_in stood) in
    let room : vec_capacity c.block.inside.items ≡ was.room = ap (λ (b : BlockState g.row.T.Denot g.row.S.Denot). b.room) c.block.view_is in
    let room_is : room_at old k ≡ was.room = ap room_in stood in
    let long : length c.block.inside.items.items ≡ length (items_at old k) = ap (λ (l : List g.row.T.Denot). length l) items in
    let len : vec_len c.block.inside.items ≡ length c.block.inside.items.items = c.block.inside.items.ok.0 in
    alters_set old k was _ (items_at old k) stood (c.reserve.ensures.items ∙ items) names (omega (arith, room, c.reserve.ensures.capacity))
    (λ note is. (sym (ap (λ (b : BlockState g.row.T.Denot g.row.S.Denot). b.note) c.block.view_is) ∙ is, sym (ap (λ (b : BlockState g.row.T.Denot g.row.S.Denot). b.items) c.block.view_is) ∙ sym c.reserve.ensures.items))
