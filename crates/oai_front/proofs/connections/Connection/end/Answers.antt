use Rattle.std.proofs.Common.{drop, refl, inl, inr}
use Rattle.oai_front.specs.Messages.{HasWhole}
use Rattle.oai_front.proofs.MessageLemmas.{message_at, message_reads}
use Rattle.oai_front.specs.Pipelining.{behind_message}
use Rattle.oai_front.proofs.connections.Connection.end.Goals as goal

-- a message stands there
pub returns-in-Message : goal.returns-in-Message
returns-in-Message c =
    let bytes = drop c.self.inside.start c.self.inside.bytes.items in
    let head = c.in-Message.field-0 in
    let stands = rw c.rest_of.ensures at (rw c.in-Message.is at c.next_in.ensures) in
    let whole : HasWhole bytes = inl (message_at bytes head, behind_message bytes head, message_reads bytes head stands.0 stands.1) in
    rw (← c.self.view_is, c.ended-self-inside-in-Message.ensures) (record { rest = inr (whole, refl); others = refl })
