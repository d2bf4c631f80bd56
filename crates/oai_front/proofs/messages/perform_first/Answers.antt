-- One step from nothing performed, and then what comes next. The moment lies in the range of its type, so that it is passed on as it is.
use Rattle.std.proofs.Common.{List, ℕ, FitsSigned, w64, to_z-of_z, ap, None}
use Rattle.std.specs.List.{concat}
use Rattle.oai_front.proofs.MessageLemmas.{first_left, first_refused, first_untold, sofar_fault, sofar_last, sofar_left, sofar_more, sofar_none}
use Rattle.oai_front.specs.Pipelining.{IsSoFar}
use Rattle.oai_front.specs.declared.messages.Next.TheVariants.{Unfinished}
use Rattle.oai_http.specs.Exchanges.{asked_by}
use Rattle.oai_front.proofs.messages.perform_first.Goals as goal

pub returns-in-Unfinished-clause-left : goal.returns-in-Unfinished-clause-left
returns-in-Unfinished-clause-left g c =
    first_left g.H.Handler.step c.args.moment c.args.handler.now c.args.bytes.now (concat c.args.queue.now.items) c.args.head (Unfinished c.in-Unfinished.head) c.requires.known (rw c.in-Unfinished.is at c.next_in.ensures)

pub returns-in-Ok-clause-left : goal.returns-in-Ok-clause-left
returns-in-Ok-clause-left g c =
    let fits : FitsSigned w64 c.args.moment = c.ranges.moment in
    sofar_fault g.H.Handler.step c.args.moment c.args.handler.now c.args.handler.now c.args.bytes.now _ _ _ c.args.bytes.now c.args.head c.in-Faulty.status
    (sofar_none g.H.Handler.step c.args.moment c.args.handler.now c.args.bytes.now (concat c.args.queue.now.items) c.args.head c.requires.known) (rw c.in-Faulty.is at c.next_in.ensures) c.in-Ok.ensures.ok

pub returns-in-Err-clause-left : goal.returns-in-Err-clause-left
returns-in-Err-clause-left g c =
    first_untold g.H.Handler.step _ c.args.handler.now c.args.bytes.now _ _ c.args.head c.in-Faulty.status c.requires.known (rw c.in-Faulty.is at c.next_in.ensures)
    (ap (λ (buffers : List (List ℕ)). concat buffers) c.in-Err.ensures.err)

pub returns-in-Err-perform_message-clause-left : goal.returns-in-Err-perform_message-clause-left
returns-in-Err-perform_message-clause-left g c =
    let stands = rw c.in-Message.is at c.next_in.ensures in
    let same = c.in-Err-perform_message.ensures.err in
    first_refused g.H.Handler.step _ c.args.handler.now c.perform_message.new.handler c.args.bytes.now _ _ c.args.head c.in-Message.head c.requires.known stands.0 stands.1 same.0
    (ap (λ (buffers : List (List ℕ)). concat buffers) same.1)

pub returns-then-head-clause-left : goal.returns-then-head-clause-left
returns-then-head-clause-left g c =
    let fits : FitsSigned w64 c.args.moment = c.ranges.moment in
    let stands = rw c.in-Message.is at c.next_in.ensures in
    sofar_last g.H.Handler.step c.args.moment c.args.handler.now c.args.handler.now c.perform_message.new.handler c.args.bytes.now _ _ _ c.args.bytes.now c.args.head c.in-Message.head
    (asked_by c.exchange_of-exchange.result) (sofar_none g.H.Handler.step c.args.moment c.args.handler.now c.args.bytes.now (concat c.args.queue.now.items) c.args.head c.requires.known)
    stands.0 stands.1 c.if-head.true c.exchange_of-exchange.ensures.asked (simp to_z-of_z at c.in-Ok-perform_message.ensures.ok)

pub returns-else-head-clause-left : goal.returns-else-head-clause-left
returns-else-head-clause-left g c =
    let fits : FitsSigned w64 c.args.moment = c.ranges.moment in
    let stands = rw c.in-Message.is at c.next_in.ensures in
    let before : List ℕ = concat c.args.queue.now.items in
    let after : List ℕ = concat c.perform_message.new.queue.items in
    let more = sofar_more g.H.Handler.step c.args.moment c.args.handler.now c.args.handler.now c.perform_message.new.handler c.args.bytes.now before before after c.args.bytes.now c.args.head c.in-Message.head
    (asked_by c.exchange_of-exchange.result) (sofar_none g.H.Handler.step c.args.moment c.args.handler.now c.args.bytes.now before c.args.head c.requires.known)
    stands.0 stands.1 c.if-head.false c.exchange_of-exchange.ensures.asked (simp to_z-of_z at c.in-Ok-perform_message.ensures.ok) in
    let here : IsSoFar g.H.Handler.step c.args.moment c.args.handler.now c.perform_message.new.handler c.args.bytes.now before after c.after-rest.result.now None = rw c.after-rest.ensures more in
    rw c.left_at.ensures (sofar_left g.H.Handler.step c.args.moment c.args.handler.now c.perform_message.new.handler c.args.bytes.now before after c.after-rest.result.now None c.next_in-in-Message.result here c.next_in-in-Message.ensures)
