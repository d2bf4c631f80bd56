-- Each write is a turn of its own.
use Rattle.oai_serving.proofs.TurnLemmas.{sent_then}
use Rattle.oai_serving.proofs.links.Link.write_all.Goals as goal

pub loop-preserved : goal.loop-preserved
loop-preserved g c = sent_then g.S.Stream.contents g.S.Stream.remaining c.args.self.now c.loop.self c.write.new.self c.loop.invariant c.write.ensures
