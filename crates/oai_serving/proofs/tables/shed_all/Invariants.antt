use Rattle.oai_serving.specs.Accepted.{known_of}
use Rattle.oai_serving.specs.Tables.{AreLinksDropped}
use Rattle.oai_serving.proofs.tables.shed_all.Given as goal

abbrev pub invariant-loop : goal.invariant-loop
invariant-loop g l =
    AreLinksDropped g.S.Stream.contents g.S.Stream.remaining (known_of (g.K.Sockets.accepted l.fn.sockets) (g.K.Sockets.gone l.fn.sockets))
    (known_of (g.K.Sockets.accepted l.sockets) (g.K.Sockets.gone l.sockets)) l.fn.links l.links
