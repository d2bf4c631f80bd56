-- Each step is a lemma on what was performed so far. The moment lies in the range of its type, so that it is passed on as it is.
use Rattle.std.proofs.Common.{List, ℕ, length, FitsSigned, w64, to_z-of_z, ap, arith}
use Rattle.std.specs.List.{concat}
use Rattle.oai_front.proofs.MessageLemmas.{length_behind, sofar_fault, sofar_last, sofar_more, sofar_none, sofar_refused, sofar_untold}
use Rattle.oai_http.specs.Exchanges.{asked_by}
use Rattle.oai_front.proofs.messages.perform_all.Goals as goal

pub messages-init : goal.messages-init
messages-init g c =
    let fits : FitsSigned w64 c.args.moment = c.ranges.moment in
    record {
      sofar = simp to_z-of_z (sofar_none g.H.Handler.step c.args.moment c.args.handler.now c.args.bytes.now (concat c.args.queue.now.items) c.args.head c.requires.known);
      filled = c.requires.filled;
      taken = λ taken t. t;
    }

pub returns-in-Ok-clause-left : goal.returns-in-Ok-clause-left
returns-in-Ok-clause-left g c =
    let fits : FitsSigned w64 c.args.moment = c.ranges.moment in
    sofar_fault g.H.Handler.step c.args.moment c.args.handler.now c.messages.handler c.args.bytes.now _ _ _ c.messages.rest.now c.messages.known c.in-Faulty.status
    (simp to_z-of_z at c.messages.invariant.sofar) (rw c.in-Faulty.is at c.next_in.ensures) c.in-Ok.ensures.ok

pub returns-then-head-clause-left : goal.returns-then-head-clause-left
returns-then-head-clause-left g c =
    let fits : FitsSigned w64 c.args.moment = c.ranges.moment in
    let stands = rw c.in-Message.is at c.next_in.ensures in
    sofar_last g.H.Handler.step c.args.moment c.args.handler.now c.messages.handler c.perform_message.new.handler c.args.bytes.now _ _ _ c.messages.rest.now c.messages.known c.in-Message.head
    (asked_by c.exchange_of-exchange.result) (simp to_z-of_z at c.messages.invariant.sofar) stands.0 stands.1 c.if-head.true c.exchange_of-exchange.ensures.asked (simp to_z-of_z at c.in-Ok-perform_message.ensures.ok)

pub returns-in-Err-perform_message-clause-left : goal.returns-in-Err-perform_message-clause-left
returns-in-Err-perform_message-clause-left g c =
    let fits : FitsSigned w64 c.args.moment = c.ranges.moment in
    let stands = rw c.in-Message.is at c.next_in.ensures in
    let same = c.in-Err-perform_message.ensures.err in
    sofar_refused g.H.Handler.step c.args.moment c.args.handler.now c.messages.handler c.perform_message.new.handler c.args.bytes.now _ _ _ c.messages.rest.now c.messages.known c.in-Message.head
    (simp to_z-of_z at c.messages.invariant.sofar) stands.0 stands.1 same.0 (ap (λ (buffers : List (List ℕ)). concat buffers) same.1)

pub returns-in-Err-clause-left : goal.returns-in-Err-clause-left
returns-in-Err-clause-left g c =
    let fits : FitsSigned w64 c.args.moment = c.ranges.moment in
    sofar_untold g.H.Handler.step c.args.moment c.args.handler.now c.messages.handler c.args.bytes.now _ _ _ c.messages.rest.now c.messages.known c.in-Faulty.status
    (simp to_z-of_z at c.messages.invariant.sofar) (rw c.in-Faulty.is at c.next_in.ensures) (ap (λ (buffers : List (List ℕ)). concat buffers) c.in-Err.ensures.err)

pub messages-smaller : goal.messages-smaller
messages-smaller g c =
    let stands = rw c.in-Message.is at c.next_in.ensures in
    omega (arith, length_behind c.messages.rest.now c.in-Message.head stands.0 stands.1, ap (λ (xs : List ℕ). length xs) c.after-rest.ensures)

pub messages-preserved : goal.messages-preserved
messages-preserved g c =
    let fits : FitsSigned w64 c.args.moment = c.ranges.moment in
    let stands = rw c.in-Message.is at c.next_in.ensures in
    record {
      sofar = simp to_z-of_z (rw c.after-rest.ensures (sofar_more g.H.Handler.step c.args.moment c.args.handler.now c.messages.handler c.perform_message.new.handler c.args.bytes.now _ _ _ c.messages.rest.now c.messages.known c.in-Message.head
          (asked_by c.exchange_of-exchange.result) (simp to_z-of_z at c.messages.invariant.sofar) stands.0 stands.1 c.if-head.false c.exchange_of-exchange.ensures.asked (simp to_z-of_z at c.in-Ok-perform_message.ensures.ok)));
      filled = c.perform_message.ensures.filled;
      taken = λ taken t. c.perform_message.ensures.taken taken (c.messages.invariant.taken taken t);
    }

pub returns-in-Ok-clause-taken : goal.returns-in-Ok-clause-taken
returns-in-Ok-clause-taken g c = λ taken t. c.put_fault.ensures.taken taken (c.messages.invariant.taken taken t)

pub returns-in-Err-clause-taken : goal.returns-in-Err-clause-taken
returns-in-Err-clause-taken g c = λ taken t. c.put_fault.ensures.taken taken (c.messages.invariant.taken taken t)

pub returns-in-Err-perform_message-clause-taken : goal.returns-in-Err-perform_message-clause-taken
returns-in-Err-perform_message-clause-taken g c = λ taken t. c.perform_message.ensures.taken taken (c.messages.invariant.taken taken t)

pub returns-then-head-clause-taken : goal.returns-then-head-clause-taken
returns-then-head-clause-taken g c = λ taken t. c.perform_message.ensures.taken taken (c.messages.invariant.taken taken t)
