use Rattle.oai_serving.specs.Rounds.{AreLinksWritten}
use Rattle.oai_serving.proofs.servers.Server.note_all.Given as goal

abbrev pub invariant-loop-at : goal.invariant-loop-at
invariant-loop-at g l = AreLinksWritten g.S.Stream.contents g.S.Stream.remaining l.fn.self l.self
