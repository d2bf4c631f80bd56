use Rattle.std.proofs.Common.{List, Some, ap}
use Rattle.oai_front.specs.Connections.{Connection}
use Rattle.oai_front.specs.Fronts.{HasOutput, IsTaking}
use Rattle.oai_front.specs.Places.{IsPlaced, none_numbered}
use Rattle.oai_front.proofs.FrontLemmas.{change_at, output_at, output_in, output_nowhere, table_at}
use Rattle.oai_front.proofs.Numbered.{connection_numbered-none}
use Rattle.oai_front.proofs.fronts.Front.taken.Goals as goal

pub take-requires : goal.take-requires
take-requires g c =
    let items : List Connection = c.self.inside.connections.items in
    let x : Connection = c.index_mut-connection.result.now in
    let place : IsPlaced c.args.conn.number items (Some c.in-Some.at) = rw c.as_slice.ensures.value at (rw c.in-Some.is at c.place_of.ensures) in
    let asked : HasOutput c.args.conn.number c.args.count items = output_in c.args.conn.number c.args.count _ _ c.self.view_is c.requires in
    output_at c.args.conn.number c.args.count items c.in-Some.at x place c.index_mut-connection.ensures.value asked

pub invariant_of-self : goal.invariant_of-self
invariant_of-self g c =
    let items : List Connection = c.self.inside.connections.items in
    let x : Connection = c.index_mut-connection.result.now in
    let place : IsPlaced c.args.conn.number items (Some c.in-Some.at) = rw c.as_slice.ensures.value at (rw c.in-Some.is at c.place_of.ensures) in
    table_at c.args.conn.number items c.self.inside.last c.in-Some.at x c.take.new.self place c.index_mut-connection.ensures.value (ap (λ (d : Connection). d.number) c.take.ensures) c.self.invariant

pub unreachable-requires : goal.unreachable-requires
unreachable-requires g c =
    let items : List Connection = c.self.inside.connections.items in
    let none : none_numbered c.args.conn.number items = rw c.as_slice.ensures.value at (rw c.in-None.is at c.place_of.ensures) in
    let asked : HasOutput c.args.conn.number c.args.count items = output_in c.args.conn.number c.args.count _ _ c.self.view_is c.requires in
    output_nowhere c.args.conn.number c.args.count items (connection_numbered-none c.args.conn.number items none) asked

pub returns-clause-change : goal.returns-clause-change
returns-clause-change g c =
    let i = c.self.inside in
    let items : List Connection = i.connections.items in
    let x : Connection = c.index_mut-connection.result.now in
    let place : IsPlaced c.args.conn.number items (Some c.in-Some.at) = rw c.as_slice.ensures.value at (rw c.in-Some.is at c.place_of.ensures) in
    rw (← c.self.view_is) (change_at c.args.conn.number i.handler i.handler i.limit i.last items c.in-Some.at x c.take.new.self (IsTaking c.args.count) place c.index_mut-connection.ensures.value
    (ap (λ (d : Connection). d.number) c.take.ensures) c.take.ensures)
