-- Each readiness is noted.
use Rattle.oai_serving.proofs.RoundLemmas.{written_none, written_then}
use Rattle.oai_serving.proofs.servers.Server.note_all.Goals as goal

pub loop-at-init : goal.loop-at-init
loop-at-init g c = written_none g.S.Stream.contents g.S.Stream.remaining c.args.self.now

pub loop-at-preserved : goal.loop-at-preserved
loop-at-preserved g c = written_then g.S.Stream.contents g.S.Stream.remaining c.args.self.now c.loop-at.self c.note.new.self c.loop-at.invariant c.note.ensures
