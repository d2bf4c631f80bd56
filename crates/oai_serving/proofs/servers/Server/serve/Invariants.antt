use Rattle.oai_serving.specs.Accepted.{known_of}
use Rattle.oai_serving.specs.Rounds.{AreRounds}
use Rattle.oai_serving.proofs.servers.Server.serve.Given as goal

abbrev pub invariant-loop-count : goal.invariant-loop-count
invariant-loop-count g l =
    AreRounds g.H.Handler.step g.H.Settled.settled g.S.Stream.contents g.S.Stream.remaining l._count (known_of (g.K.Sockets.accepted l.fn.sockets) (g.K.Sockets.gone l.fn.sockets))
    (known_of (g.K.Sockets.accepted l.sockets) (g.K.Sockets.gone l.sockets)) l.fn.self l.self
