use Rattle.std.proofs.Common.{◌∙◌, sym}
use Rattle.oai_blocks.proofs.ElementLemmas.{copied_sets}
use Rattle.oai_blocks.proofs.ShelfLemmas.{not_err}
use Rattle.oai_blocks.proofs.lines.BlockLines.own_for.Goals as goal

pub make_own-requires-clause-shared : goal.make_own-requires-clause-shared
make_own-requires-clause-shared g c =
    c.is_own.ensures.shared c.if-is_own.false

pub returns-clause-line : goal.returns-clause-line
returns-clause-line g c =
    let self = c.args.self.now in
    copied_sets c.args.v c.args.j c.in_ok-copies.copies.items self c.make_own.new.self
    (not_err c.make_own.result (sym c.is_err.ensures.value ∙ c.if-is_err.false) c.make_own.ensures.line)
    (c.in_ok-copies.ensures.items ∙ c.block.ensures) c.requires.block (sym c.is_own.ensures.own ∙ c.if-is_own.false)
