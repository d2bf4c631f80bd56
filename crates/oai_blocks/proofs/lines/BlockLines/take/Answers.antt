use Rattle.oai_blocks.specs.Store.{copied_of}
use Rattle.oai_blocks.proofs.ElementLemmas.{take_sets}
use Rattle.oai_blocks.proofs.lines.BlockLines.take.Goals as goal

pub returns-clause-line : goal.returns-clause-line
returns-clause-line g c =
    let self = c.args.self.now in
    take_sets c.args.v c.args.j c.args.i c.take_last.result (copied_of self c.args.v c.args.j) c.in_ok-others.others.items c.exchange.new.others.items c.take_last.new.self.items self c.own_for.new.self c.exchange.new.self
    c.in_ok-own_for.ensures.line c.exchange.ensures.line c.in_ok-others.ensures.items c.take_last.ensures.items c.exchange.ensures.gone
