use Rattle.std.proofs.Common.{◌∙◌, ◌++◌, ◌∷◌, [], ap, sym}
use Rattle.oai_blocks.specs.Store.{copied_of}
use Rattle.oai_blocks.proofs.ElementLemmas.{put_sets}
use Rattle.oai_blocks.proofs.ShelfLemmas.{not_err}
use Rattle.oai_blocks.proofs.lines.BlockLines.put.Goals as goal

pub returns-clause-line : goal.returns-clause-line
returns-clause-line g c =
    let self = c.args.self.now in
    put_sets c.args.v c.args.j c.args.i c.args.item (copied_of self c.args.v c.args.j) c.push_reserved.new.self.items c.exchange.new.others.items self c.own_for.new.self c.exchange.new.self
    (not_err c.own_for.result (sym c.is_err.ensures.value ∙ c.if-is_err.false) c.own_for.ensures.line)
    c.exchange.ensures.line (c.push_reserved.ensures.items ∙ ap (λ l. l ++ c.args.item ∷ []) c.in-Ok.ensures.items) c.exchange.ensures.gone
