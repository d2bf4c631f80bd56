-- A link whose messages are no longer performed drops what is read.
use Rattle.std.proofs.Common.{ap}
use Rattle.oai_serving.proofs.TurnLemmas.{dropped_passed}
use Rattle.oai_serving.specs.Inside.{with_gathered}
use Rattle.oai_serving.specs.Links.{is_able}
use Rattle.oai_serving.proofs.links.Link.pass_on.Goals as goal

pub returns-in-Last : goal.returns-in-Last
returns-in-Last g c =
    let i = c.self.inside in
    rw (← c.self.view_is) (dropped_passed g.H.Handler.step g.S.Stream.contents g.S.Stream.remaining c.args.moment c.args.bytes.now i.stream (with_gathered i.gathered.items i.connection)
    (is_able i.phase) (is_able i.phase) c.args.handler.now (ap is_able c.in-Last.is))

pub returns-in-Closing : goal.returns-in-Closing
returns-in-Closing g c =
    let i = c.self.inside in
    rw (← c.self.view_is) (dropped_passed g.H.Handler.step g.S.Stream.contents g.S.Stream.remaining c.args.moment c.args.bytes.now i.stream (with_gathered i.gathered.items i.connection)
    (is_able i.phase) (is_able c.closing-self-inside.result) c.args.handler.now (c.closing-self-inside.ensures))

pub returns-in-Over : goal.returns-in-Over
returns-in-Over g c =
    let i = c.self.inside in
    rw (← c.self.view_is) (dropped_passed g.H.Handler.step g.S.Stream.contents g.S.Stream.remaining c.args.moment c.args.bytes.now i.stream (with_gathered i.gathered.items i.connection)
    (is_able i.phase) (is_able i.phase) c.args.handler.now (ap is_able c.in-Over.is))
