use Rattle.std.proofs.Common.{List, Some, ap, refl}
use Rattle.oai_front.specs.Connections.{Connection, IsEnded}
use Rattle.oai_front.specs.Places.{IsPlaced, none_numbered}
use Rattle.oai_front.proofs.FrontLemmas.{change_at, table_at}
use Rattle.oai_front.proofs.Numbered.{connection_numbered-none}
use Rattle.oai_front.proofs.fronts.Front.end.Goals as goal

pub invariant_of-self : goal.invariant_of-self
invariant_of-self g c =
    let items : List Connection = c.self.inside.connections.items in
    let x : Connection = c.index_mut-connection.result.now in
    let place : IsPlaced c.args.conn.number items (Some c.in-Some.at) = rw c.as_slice.ensures.value at (rw c.in-Some.is at c.place_of.ensures) in
    table_at c.args.conn.number items c.self.inside.last c.in-Some.at x c.end.new.self place c.index_mut-connection.ensures.value (ap (λ (d : Connection). d.number) c.end.ensures.others) c.self.invariant

pub returns-in-Some : goal.returns-in-Some
returns-in-Some g c =
    let i = c.self.inside in
    let items : List Connection = i.connections.items in
    let x : Connection = c.index_mut-connection.result.now in
    let place : IsPlaced c.args.conn.number items (Some c.in-Some.at) = rw c.as_slice.ensures.value at (rw c.in-Some.is at c.place_of.ensures) in
    rw (← c.self.view_is) (
      change_at c.args.conn.number i.handler i.handler i.limit i.last items c.in-Some.at x c.end.new.self IsEnded place c.index_mut-connection.ensures.value
          (ap (λ (d : Connection). d.number) c.end.ensures.others) c.end.ensures,
      refl,
    )

pub returns-in-None : goal.returns-in-None
returns-in-None g c =
    let items : List Connection = c.self.inside.connections.items in
    let none : none_numbered c.args.conn.number items = rw c.as_slice.ensures.value at (rw c.in-None.is at c.place_of.ensures) in
    rw (← c.self.view_is) (connection_numbered-none c.args.conn.number items none, refl)
