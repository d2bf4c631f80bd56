-- Each link by itself.
use Rattle.oai_serving.proofs.PassLemmas.{passes_none}
use Rattle.oai_serving.proofs.TableLemmas.{ended_none, ended_then}
use Rattle.oai_serving.proofs.tables.end_all.Goals as goal

pub loop-key-init : goal.loop-key-init
loop-key-init g c = ended_none g.S.Stream.contents g.S.Stream.remaining _ _ c.args.links.now (passes_none _)

pub loop-key-preserved : goal.loop-key-preserved
loop-key-preserved g c = ended_then g.S.Stream.contents g.S.Stream.remaining _ _ _ c.args.links.now c.loop-key.links c.end_at.new.links c.loop-key.invariant c.end_at.ensures
