-- What is passed to the connection is the last that was read.
use Rattle.std.proofs.Common.{◌∙◌, ap, refl, w64, FitsSigned, to_z-of_z, false}
use Rattle.std.specs.Prelude.{Err}
use Rattle.std.proofs.lemmas.Bool.{false≢true}
use Rattle.oai_serving.proofs.TurnLemmas.{dropped_passed, ok_not_memory, passed_still, piece_gathered, unfinished_not_memory}
use Rattle.oai_serving.specs.Inside.{with_gathered}
use Rattle.oai_serving.specs.Links.{is_able, Link}
use Rattle.oai_serving.proofs.links.Link.hand_in.Goals as goal

pub returns-in-Ok : goal.returns-in-Ok
returns-in-Ok g c =
    let i = c.self.inside in
    let fits : FitsSigned w64 c.args.moment = c.ranges.moment in
    let taken = simp to_z-of_z at c.piece_by_message.ensures in
    rw (← c.self.view_is) (piece_gathered g.H.Handler.step g.S.Stream.contents g.S.Stream.remaining c.args.moment i.gathered.items c.args.bytes.now
    c.piece_by_message.result i.stream i.connection c.piece_by_message.new.self (is_able i.phase) (is_able i.phase) c.args.handler.now c.piece_by_message.new.handler
    (rw (← c.self.view_is) at c.requires.idle) taken (rw (← c.self.view_is) at c.requires.able) (rw c.is_closing.ensures at c.if-is_closing.false) (λ a. ok_not_memory _ c.in-Ok.is))

pub returns-in-Err : goal.returns-in-Err
returns-in-Err g c =
    let i = c.self.inside in
    let fits : FitsSigned w64 c.args.moment = c.ranges.moment in
    let taken = simp to_z-of_z at c.piece_by_message.ensures in
    rw (← c.self.view_is) (piece_gathered g.H.Handler.step g.S.Stream.contents g.S.Stream.remaining c.args.moment i.gathered.items c.args.bytes.now
    c.piece_by_message.result i.stream i.connection c.piece_by_message.new.self (is_able i.phase) false c.args.handler.now c.piece_by_message.new.handler
    (rw (← c.self.view_is) at c.requires.idle) taken (rw (← c.self.view_is) at c.requires.able) (rw c.is_closing.ensures at c.if-is_closing.false) (λ a. absurd (false≢true a)))

-- a complete message is left, or memory ran out
pub returns-in-Err-Unfinished : goal.returns-in-Err-Unfinished
returns-in-Err-Unfinished g c =
    let i = c.self.inside in
    let fits : FitsSigned w64 c.args.moment = c.ranges.moment in
    let taken = simp to_z-of_z at c.piece_by_message.ensures in
    let mid : Link g.row.S.Denot = record { stream = i.stream; connection = with_gathered i.gathered.items c.piece_by_message.new.self; able = is_able i.phase } in
    rw (← c.self.view_is) (passed_still g.H.Handler.step g.S.Stream.contents g.S.Stream.remaining c.args.moment c.args.bytes.now
    (record { stream = i.stream; connection = with_gathered i.gathered.items i.connection; able = is_able i.phase }) mid c.pause.new.self c.args.handler.now c.piece_by_message.new.handler
    (piece_gathered g.H.Handler.step g.S.Stream.contents g.S.Stream.remaining c.args.moment i.gathered.items c.args.bytes.now
    c.piece_by_message.result i.stream i.connection c.piece_by_message.new.self (is_able i.phase) (is_able i.phase) c.args.handler.now c.piece_by_message.new.handler
    (rw (← c.self.view_is) at c.requires.idle) taken (rw (← c.self.view_is) at c.requires.able) (rw c.is_closing.ensures at c.if-is_closing.false)
    (λ a. unfinished_not_memory _ (c.in-Err-Unfinished.is ∙ ap (λ f. Err f) c.in-Err-Unfinished.field-0-is)))
    c.pause.ensures)

-- the connection reads no more
pub returns-then-is_closing : goal.returns-then-is_closing
returns-then-is_closing g c =
    let i = c.self.inside in
    rw (← c.self.view_is) (dropped_passed g.H.Handler.step g.S.Stream.contents g.S.Stream.remaining c.args.moment c.args.bytes.now i.stream (with_gathered i.gathered.items i.connection)
    (is_able i.phase) false c.args.handler.now refl)
