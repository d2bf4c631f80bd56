use Rattle.std.proofs.Common.{◌≡◌, ◌∙◌, ◌∷◌, List, [], Some, sym, ap, subst, arith}
use Rattle.oai_blocks.specs.Blocks.{BlockState, block_at, items_in, names_at, names_in}
use Rattle.oai_blocks.specs.Naming.{Turns}
use Rattle.oai_blocks.proofs.ShelfLemmas.{named_last, named_less, set_is}
use Rattle.oai_blocks.proofs.shelves.drop_name.Goals as goal

pub returns-then-block-gt1-clause-turns : goal.returns-then-block-gt1-clause-turns
returns-then-block-gt1-clause-turns g c =
    let old = c.args.blocks.now.slots in
    let was : BlockState g.row.T.Denot g.row.S.Denot = c.in-Some.block.now in
    let stood : block_at old c.args.number ≡ Some was = sym c.in-Some.ensures.value in
    let seen = c.block.view_is in
    let names : c.block.inside.names ≡ was.names = ap (λ (b : BlockState g.row.T.Denot g.row.S.Denot). b.names) seen in
    let more = c.if-block-gt1.true in
    named_less old _ c.args.number was _ stood (ap (λ (b : BlockState g.row.T.Denot g.row.S.Denot). b.items) seen)
    (omega (arith, names, more)) (omega (arith, more)) (ap (λ (b : BlockState g.row.T.Denot g.row.S.Denot). b.note) seen) (set_is old c.args.number was _ stood)

pub returns-clause-turns : goal.returns-clause-turns
returns-clause-turns g c =
    let old = c.args.blocks.now.slots in
    let k = c.args.number in
    let was : BlockState g.row.T.Denot g.row.S.Denot = c.in-Some.block.now in
    let stood : block_at old k ≡ Some was = sym c.in-Some.ensures.value in
    let set = set_is old k was was stood in
    let names : c.block.inside.names ≡ was.names = ap (λ (b : BlockState g.row.T.Denot g.row.S.Denot). b.names) c.block.view_is in
    let before : names_at old k ≡ was.names = ap names_in stood in
    let few = c.if-block-gt1.false in
    let some = c.requires in
    let held : was.items ≡ c.remove.result.items = ap items_in (sym set.this ∙ c.remove.ensures.value) in
    let out : c.result.inside.items.items ≡ c.remove.result.items = ap (λ (b : BlockState g.row.T.Denot g.row.S.Denot). b.items) c.result.view_is in
    subst (λ (gone : List g.row.T.Denot). Turns (k ∷ []) [] [] gone old c.remove.new.self.slots) (held ∙ sym out)
    (named_last old c.remove.new.self.slots k was stood (omega (arith, names, before, few, some))
    (record { this = c.remove.ensures.updates.changed; others = λ j apart. c.remove.ensures.updates.others j apart ∙ set.others j apart }))
