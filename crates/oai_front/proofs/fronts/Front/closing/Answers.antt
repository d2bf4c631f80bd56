use Rattle.std.proofs.Common.{◌∙◌, Bool, List, Some, ap, sym}
use Rattle.std.specs.Option.{option_map}
use Rattle.oai_front.specs.Connections.{Connection}
use Rattle.oai_front.specs.Places.{IsPlaced, none_numbered}
use Rattle.oai_front.specs.Stages.{is_closing}
use Rattle.oai_front.proofs.FrontLemmas.{stands_at}
use Rattle.oai_front.proofs.Numbered.{connection_numbered-none}
use Rattle.oai_front.proofs.fronts.Front.closing.Goals as goal

pub returns-in-Some : goal.returns-in-Some
returns-in-Some g c =
    let items : List Connection = c.self.inside.connections.items in
    let x : Connection = c.index-connection.result.now in
    let place : IsPlaced c.args.conn.number items (Some c.in-Some.at) = rw c.as_slice.ensures.value at (rw c.in-Some.is at c.place_of.ensures) in
    rw (← c.self.view_is) (ap (λ (b : Bool). Some b) c.is_closing.ensures ∙ sym (ap (option_map (λ (d : Connection). is_closing d.stage)) (stands_at c.args.conn.number items c.in-Some.at x place c.index-connection.ensures)))

pub returns-in-None : goal.returns-in-None
returns-in-None g c =
    let items : List Connection = c.self.inside.connections.items in
    let none : none_numbered c.args.conn.number items = rw c.as_slice.ensures.value at (rw c.in-None.is at c.place_of.ensures) in
    rw (← c.self.view_is) (sym (ap (option_map (λ (d : Connection). is_closing d.stage)) (connection_numbered-none c.args.conn.number items none)))
