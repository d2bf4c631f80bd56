use Rattle.std.proofs.Common.{◌∙◌, Some, ap, sym}
use Rattle.oai_blocks.proofs.LineLemmas.{number_stands}
use Rattle.oai_blocks.proofs.lines.BlockLines.number_of.Goals as goal

pub returns-clause-stands : goal.returns-clause-stands
returns-clause-stands g c =
    let self = c.args.self.now in
    number_stands self.blocks.slots self.lines.slots c.args.v c.line.inside.numbers.items (sym c.in-Some.ensures ∙ ap Some (sym c.line.view_is))
    self.waiting.items c.args.j c.index.result.now self.blocked c.requires c.index.ensures
