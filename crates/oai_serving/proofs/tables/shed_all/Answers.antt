-- Each turn takes one away.
use Rattle.oai_serving.proofs.PassLemmas.{passes_none}
use Rattle.oai_serving.proofs.TableLemmas.{ended_none, ended_then}
use Rattle.oai_serving.proofs.tables.shed_all.Goals as goal

pub loop-init : goal.loop-init
loop-init g c = ended_none g.S.Stream.contents g.S.Stream.remaining _ _ c.args.links.now (passes_none _)

pub loop-preserved : goal.loop-preserved
loop-preserved g c = ended_then g.S.Stream.contents g.S.Stream.remaining _ _ _ c.args.links.now c.loop.links c.take_away.new.links c.loop.invariant c.take_away.ensures
