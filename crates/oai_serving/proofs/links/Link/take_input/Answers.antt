-- What was read is passed on; if nothing was, nothing is performed.
use Rattle.std.proofs.Common.{arith, FitsSigned, to_z-of_z, w64}
use Rattle.oai_serving.proofs.KnownBytes.{consumes_kept}
use Rattle.oai_serving.proofs.TurnLemmas.{ended_turn, input_turn, unread_turn}
use Rattle.oai_serving.specs.Inside.{with_gathered}
use Rattle.oai_serving.specs.Links.{is_able}
use Rattle.oai_serving.proofs.links.Link.take_input.Goals as goal

pub returns-in-Ok-eq0 : goal.returns-in-Ok-eq0
returns-in-Ok-eq0 g c =
    let i = c.self.inside in
    rw (← c.self.view_is) (ended_turn g.H.Handler.step g.S.Stream.contents g.S.Stream.remaining c.args.moment _ c.in-Ok-eq0.field-0 i.stream c.read.new.self (with_gathered i.gathered.items i.connection) (is_able i.phase)
    (is_able c.at_end-self-inside.result) c.args.handler.now (omega arith) c.at_end-self-inside.ensures c.in-Ok-eq0.ensures.bytes.0 c.read.ensures.kept (rw (← c.self.view_is) at c.requires.idle))

pub returns-after-count-buffer : goal.returns-after-count-buffer
returns-after-count-buffer g c =
    let i = c.self.inside in
    let fits : FitsSigned w64 c.args.moment = c.ranges.moment in
    rw (← c.self.view_is) (input_turn g.H.Handler.step g.S.Stream.contents g.S.Stream.remaining c.args.moment _ i.stream c.read.new.self (with_gathered i.gathered.items i.connection) (is_able i.phase)
    c.pass_on.new.self c.args.handler.now c.pass_on.new.handler c.in-Ok.ensures.bytes.0 c.read.ensures.kept (rw (← c.self.view_is) at c.requires.idle) (simp to_z-of_z at c.pass_on.ensures))

pub returns-in-Err : goal.returns-in-Err
returns-in-Err g c =
    let i = c.self.inside in
    rw (← c.self.view_is) (unread_turn g.H.Handler.step g.S.Stream.contents g.S.Stream.remaining c.args.moment i.stream c.read.new.self (with_gathered i.gathered.items i.connection) (is_able i.phase)
    c.unread.new.self c.args.handler.now (consumes_kept (g.S.Stream.remaining i.stream) (g.S.Stream.remaining c.read.new.self) c.in-Err.ensures.bytes) c.read.ensures.kept (rw (← c.self.view_is) at c.requires.idle) c.unread.ensures)
