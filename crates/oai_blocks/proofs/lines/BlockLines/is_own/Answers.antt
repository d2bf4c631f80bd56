use Rattle.std.proofs.Common.{rules}
use Rattle.oai_blocks.specs.Store.{names_of}
use Rattle.oai_blocks.proofs.ElementLemmas.{more_than_one}
use Rattle.oai_blocks.proofs.LineLemmas.{has_block}
use Rattle.oai_blocks.proofs.lines.BlockLines.is_own.Goals as goal

pub returns-clause-shared : goal.returns-clause-shared
returns-clause-shared g c other =
    let self = c.args.self.now in
    let has = has_block self.blocks.slots self.lines.slots self.waiting.items c.args.v c.args.j self.blocked c.requires in
    more_than_one (names_of self c.args.v c.args.j) has.4 (search rules)
