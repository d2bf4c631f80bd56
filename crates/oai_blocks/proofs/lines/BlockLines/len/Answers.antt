use Rattle.oai_blocks.proofs.WeightLemmas.{weighs}
use Rattle.oai_blocks.proofs.lines.BlockLines.len.Goals as goal

pub returns-clause-weighs : goal.returns-clause-weighs
returns-clause-weighs g c weigh =
    let self = c.args.self.now in
    weighs weigh self.blocks.slots self.lines.slots self.waiting.items c.args.v self.blocked
