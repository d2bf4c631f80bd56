-- What is left begins behind the messages that were performed.
use Rattle.std.proofs.Common.{◌≤◌, ◌+◌, List, ℕ, Option, arith, subst, sym, ap, drop, length, length-drop}
use Rattle.std.proofs.lemmas.List.{drop-drop}
use Rattle.std.specs.List.{concat}
use Rattle.std.specs.Prelude.{IfSome}
use Rattle.oai_front.specs.RequestHeads.{IsHead}
use Rattle.oai_front.specs.declared.request_heads.Head.{Head}
use Rattle.oai_front.proofs.ConnectionLemmas.{made}
use Rattle.oai_front.proofs.connections.Connection.leave.Goals as goal

head_left : (start begun : ℕ) (bytes : List ℕ) (kept : Option Head) → IfSome kept (IsHead (drop begun (drop start bytes))) → IfSome kept (IsHead (drop (start + begun) bytes))
head_left start begun bytes kept h = subst (λ (xs : List ℕ). IfSome kept (IsHead xs)) (drop-drop begun start bytes) h

start_left : (start begun : ℕ) (bytes : List ℕ) → start ≤ length bytes → begun ≤ length (drop start bytes) → start + begun ≤ length bytes
start_left start begun bytes few more = omega (arith, few, more, length-drop start bytes)

pub invariant_of-self : goal.invariant_of-self
invariant_of-self c =
    let i = c.self.inside in
    let v = c.self.invariant in
    let left = rw (← c.self.view_is, c.in-Waiting.is) at c.requires in
    record { start = start_left i.start c.in-Waiting.begun i.bytes.items v.start left.0; head = head_left i.start c.in-Waiting.begun i.bytes.items _ left.1; filled = v.filled; taken = v.taken }

pub invariant_of-self-in-Unanswered : goal.invariant_of-self-in-Unanswered
invariant_of-self-in-Unanswered c =
    let i = c.self.inside in
    let v = c.self.invariant in
    let left = rw (← c.self.view_is, c.in-Unanswered.is) at c.requires in
    record { start = start_left i.start c.in-Unanswered.begun i.bytes.items v.start left.0; head = head_left i.start c.in-Unanswered.begun i.bytes.items _ left.1; filled = v.filled; taken = v.taken }

pub returns-in-Waiting-clause-left : goal.returns-in-Waiting-clause-left
returns-in-Waiting-clause-left c =
    let i = c.self.inside in
    rw (← c.self.view_is, c.in-Waiting.is) (ap (λ (xs : List ℕ). made i.number xs (drop i.taken (concat i.queue.items)) i.stage) (sym (drop-drop c.in-Waiting.begun i.start i.bytes.items)))

pub returns-in-Unanswered-clause-left : goal.returns-in-Unanswered-clause-left
returns-in-Unanswered-clause-left c =
    let i = c.self.inside in
    rw (← c.self.view_is, c.in-Unanswered.is) (ap (λ (xs : List ℕ). made i.number xs (drop i.taken (concat i.queue.items)) i.stage) (sym (drop-drop c.in-Unanswered.begun i.start i.bytes.items)))
