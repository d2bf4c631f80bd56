-- What is known of the head stays known where bytes come behind it.
use Rattle.std.proofs.Common.{◌≡◌, ◌≤◌, ◌∙◌, List, ℕ, ◌++◌, Option, None, Some, Result, Ok, Err, arith, subst, sym, ap, drop, length}
use Rattle.std.proofs.lemmas.List.{drop-append-le, length-append}
use Rattle.std.specs.Prelude.{IfSome, OnErr, OnOk, is_ok, if◌then◌else◌}
use Rattle.oai_front.proofs.ConnectionLemmas.{made}
use Rattle.oai_front.specs.declared.stages.Stage.{Stage}
use Rattle.oai_front.specs.RequestHeads.{IsHead}
use Rattle.oai_front.specs.declared.request_heads.Head.{Head}
use Rattle.oai_front.proofs.HeadLemmas.{head_more}
use Rattle.oai_front.proofs.connections.Connection.append.Goals as goal

still : {E : Type 0} (bytes new piece : List ℕ) (known : Option Head) (r : Result Unit E) → new ≡ (if is_ok r then bytes ++ piece else bytes) → IfSome known (IsHead bytes) → IfSome known (IsHead new)
still bytes new piece None r e h = tt
still bytes new piece (Some kept) (Ok done) e h = subst (λ (xs : List ℕ). IsHead xs kept) (sym e) (head_more bytes piece kept h)
still bytes new piece (Some kept) (Err f) e h = subst (λ (xs : List ℕ). IsHead xs kept) (sym e) h

-- the rest grows as the bytes do
rest_more : {E : Type 0} (start : ℕ) (bytes new piece : List ℕ) (r : Result Unit E) → start ≤ length bytes → new ≡ (if is_ok r then bytes ++ piece else bytes)
    → drop start new ≡ (if is_ok r then drop start bytes ++ piece else drop start bytes)
rest_more start bytes new piece (Ok done) few e = ap (drop start) e ∙ drop-append-le start bytes piece few
rest_more start bytes new piece (Err f) few e = ap (drop start) e

no_shorter : {E : Type 0} (start : ℕ) (bytes new piece : List ℕ) (r : Result Unit E) → start ≤ length bytes → new ≡ (if is_ok r then bytes ++ piece else bytes) → start ≤ length new
no_shorter start bytes new piece (Ok done) few e = omega (arith, few, ap (λ (xs : List ℕ). length xs) e, length-append bytes piece)
no_shorter start bytes new piece (Err f) few e = omega (arith, few, ap (λ (xs : List ℕ). length xs) e)

-- a connection of these parts, with more bytes
appended : {E : Type 0} (number start : ℕ) (bytes new piece output : List ℕ) (stage : Stage) (r : Result Unit E) → start ≤ length bytes → new ≡ (if is_ok r then bytes ++ piece else bytes)
    → OnOk r (made number (drop start new) output stage ≡ made number (drop start bytes ++ piece) output stage)
appended {E} number start bytes new piece output stage (Ok done) few e = ap (λ (xs : List ℕ). made number xs output stage) (rest_more {E = E} start bytes new piece (Ok done) few e)
appended {E} number start bytes new piece output stage (Err f) few e = tt

not_appended : {E : Type 0} (number start : ℕ) (bytes new piece output : List ℕ) (stage : Stage) (r : Result Unit E) → new ≡ (if is_ok r then bytes ++ piece else bytes)
    → OnErr r (made number (drop start new) output stage ≡ made number (drop start bytes) output stage)
not_appended number start bytes new piece output stage (Ok done) e = tt
not_appended number start bytes new piece output stage (Err f) e = ap (λ (xs : List ℕ). made number (drop start xs) output stage) e

pub returns-clause-ok : goal.returns-clause-ok
returns-clause-ok c =
    let i = c.self.inside in
    rw (← c.self.view_is) (appended i.number i.start i.bytes.items _ c.args.piece.now _ i.stage c.extend_from_slice.result c.self.invariant.start c.extend_from_slice.ensures.items)

pub returns-clause-err : goal.returns-clause-err
returns-clause-err c =
    let i = c.self.inside in
    rw (← c.self.view_is) (not_appended i.number i.start i.bytes.items _ c.args.piece.now _ i.stage c.extend_from_slice.result c.extend_from_slice.ensures.items)

pub invariant_of-self : goal.invariant_of-self
invariant_of-self c =
    let i = c.self.inside in
    let v = c.self.invariant in
    let r = c.extend_from_slice.result in
    let e = c.extend_from_slice.ensures.items in
    record {
      start = no_shorter i.start i.bytes.items _ c.args.piece.now r v.start e;
      head = still (drop i.start i.bytes.items) _ c.args.piece.now i.head r (rest_more i.start i.bytes.items _ c.args.piece.now r v.start e) v.head;
      filled = v.filled;
      taken = v.taken;
    }
