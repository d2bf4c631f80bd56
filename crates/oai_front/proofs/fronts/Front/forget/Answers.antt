use Rattle.std.proofs.Common.{◌∙◌, List, Some, ap, is_some, refl, sym, subst}
use Rattle.oai_front.specs.Connections.{Connection, fresh}
use Rattle.oai_front.specs.Fronts.{IsTable}
use Rattle.oai_front.specs.Places.{IsPlaced, none_numbered}
use Rattle.oai_front.proofs.FrontLemmas.{front_of}
use Rattle.oai_front.proofs.Numbered.{connection_numbered-none, connection_numbered-placed, table_without, without-placed}
use Rattle.oai_front.proofs.fronts.Front.forget.Goals as goal

pub invariant_of-self : goal.invariant_of-self
invariant_of-self g c =
    let items : List Connection = c.self.inside.connections.items in
    let place : IsPlaced c.args.conn.number items (Some c.in-Some.at) = rw c.as_slice.ensures.value at (rw c.in-Some.is at c.place_of.ensures) in
    rw c.drop_at.ensures (subst (λ (cs : List Connection). IsTable cs c.self.inside.last) (without-placed c.args.conn.number items c.in-Some.at (fresh 0) place)
    (table_without c.args.conn.number items c.self.inside.last c.self.invariant))

pub returns-in-Some : goal.returns-in-Some
returns-in-Some g c =
    let items : List Connection = c.self.inside.connections.items in
    let place : IsPlaced c.args.conn.number items (Some c.in-Some.at) = rw c.as_slice.ensures.value at (rw c.in-Some.is at c.place_of.ensures) in
    rw (← c.self.view_is) (
      ap is_some (connection_numbered-placed c.args.conn.number items c.in-Some.at (fresh 0) place),
      ap (front_of c.self.inside.handler c.self.inside.limit c.self.inside.last) (c.drop_at.ensures ∙ sym (without-placed c.args.conn.number items c.in-Some.at (fresh 0) place)),
    )

pub returns-in-None : goal.returns-in-None
returns-in-None g c =
    let items : List Connection = c.self.inside.connections.items in
    let none : none_numbered c.args.conn.number items = rw c.as_slice.ensures.value at (rw c.in-None.is at c.place_of.ensures) in
    rw (← c.self.view_is) (connection_numbered-none c.args.conn.number items none, refl)
