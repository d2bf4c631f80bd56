-- The port that counts its connections holds the port.
use Rattle.oai_daemon.proofs.LifeLemmas.{served_inside}
use Rattle.oai_daemon.proofs.service.serve_at.Goals as goal

pub returns-clause-served : goal.returns-clause-served
returns-clause-served g c = served_inside g.H.Handler.step g.H.Settled.settled g.S.Stream.contents g.S.Stream.remaining g.K.Sockets.accepted g.K.Sockets.gone
    c.args.handler c.args.port c.new-counted.result.port c.serve-result.new.sockets.port c.into_port.result _ c.serve-result.result c.serve-result.new.self
    c.in-Ok.ensures.handler c.in-Ok.ensures.links c.in-Ok.ensures.last c.new-counted.ensures c.into_port.ensures c.serve-result.ensures
