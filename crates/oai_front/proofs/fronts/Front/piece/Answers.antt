-- The moment lies in the range of its type, so that it is passed on as it is.
use Rattle.std.proofs.Common.{List, Some, FitsSigned, refl, to_z-of_z, w64}
use Rattle.oai_front.specs.Connections.{Connection, IsTakenIn}
use Rattle.oai_front.specs.Places.{IsPlaced, none_numbered}
use Rattle.oai_front.proofs.FrontLemmas.{piece_at, table_at, taken_number}
use Rattle.oai_front.proofs.Numbered.{connection_numbered-none}
use Rattle.oai_front.proofs.fronts.Front.piece.Goals as goal

pub invariant_of-self : goal.invariant_of-self
invariant_of-self g c =
    let fits : FitsSigned w64 c.args.moment = c.ranges.moment in
    let items : List Connection = c.self.inside.connections.items in
    let x : Connection = c.index_mut-connection.result.now in
    let place : IsPlaced c.args.conn.number items (Some c.in-Some.at) = rw c.as_slice.ensures.value at (rw c.in-Some.is at c.place_of.ensures) in
    let taken : IsTakenIn g.H.Handler.step c.args.moment c.args.piece.now x c.self.inside.handler c.piece.result c.piece.new.self c.piece.new.handler = simp to_z-of_z at c.piece.ensures in
    table_at c.args.conn.number items c.self.inside.last c.in-Some.at x c.piece.new.self place c.index_mut-connection.ensures.value
    (taken_number g.H.Handler.step c.args.moment c.args.piece.now x c.piece.new.self c.self.inside.handler c.piece.new.handler c.piece.result taken) c.self.invariant

pub returns-in-Some : goal.returns-in-Some
returns-in-Some g c =
    let fits : FitsSigned w64 c.args.moment = c.ranges.moment in
    let i = c.self.inside in
    let items : List Connection = i.connections.items in
    let x : Connection = c.index_mut-connection.result.now in
    let place : IsPlaced c.args.conn.number items (Some c.in-Some.at) = rw c.as_slice.ensures.value at (rw c.in-Some.is at c.place_of.ensures) in
    let taken : IsTakenIn g.H.Handler.step c.args.moment c.args.piece.now x i.handler c.piece.result c.piece.new.self c.piece.new.handler = simp to_z-of_z at c.piece.ensures in
    rw (← c.self.view_is) (piece_at g.H.Handler.step c.args.conn.number c.args.moment c.args.piece.now i.handler c.piece.new.handler i.limit i.last items c.in-Some.at x c.piece.new.self c.piece.result
    place c.index_mut-connection.ensures.value taken)

pub returns-in-None : goal.returns-in-None
returns-in-None g c =
    let items : List Connection = c.self.inside.connections.items in
    let none : none_numbered c.args.conn.number items = rw c.as_slice.ensures.value at (rw c.in-None.is at c.place_of.ensures) in
    rw (← c.self.view_is) (connection_numbered-none c.args.conn.number items none, refl)
