use Rattle.oai_serving.specs.Accepted.{known_of}
use Rattle.oai_serving.specs.Tables.{AreLinksDropped}
use Rattle.oai_serving.proofs.tables.end_all.Given as goal

abbrev pub invariant-loop-key : goal.invariant-loop-key
invariant-loop-key g l =
    AreLinksDropped g.S.Stream.contents g.S.Stream.remaining (known_of (g.K.Sockets.accepted l.fn.sockets) (g.K.Sockets.gone l.fn.sockets))
    (known_of (g.K.Sockets.accepted l.sockets) (g.K.Sockets.gone l.sockets)) l.fn.links l.links
