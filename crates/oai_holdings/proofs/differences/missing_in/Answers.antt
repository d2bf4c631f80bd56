-- One item more, that the others lack or have; and when all were taken.
use Rattle.std.proofs.Common.{◌≡◌, ◌∙◌, ◌+◌, ◌≤◌, ◌++◌, ℕ, true, false, List, [], ◌∷◌, length, length-append, refl, sym, ap, arith}
use Rattle.std.specs.Vec.Iter.{into_iter_items}
use Rattle.oai_holdings.specs.MissingParts.{is_first}
use Rattle.oai_holdings.proofs.MissingLemmas.{all_found, one_more_found, one_more_shared}
use Rattle.oai_holdings.proofs.differences.missing_in.Goals as goal

nothing_left : {X : Type 0} (l : List X) → length l ≡ 0 → l ≡ []
nothing_left [] h = refl
nothing_left (x ∷ xs) h = absurd (omega arith)

moved : {X : Type 0} (found left later : List X) (x : X) (n : ℕ) → left ≡ x ∷ later → length found + length left ≤ n → length (found ++ x ∷ []) + length later ≤ n
moved found left later x n first was = let short = ap length first in omega (arith, length-append found (x ∷ []))

dropped : {X : Type 0} (found left later : List X) (x : X) (n : ℕ) → left ≡ x ∷ later → length found + length left ≤ n → length found + length later ≤ n
dropped found left later x n first was = let short = ap length first in omega arith

pub loop-item-preserved-in-Continue-1 : goal.loop-item-preserved-in-Continue-1
loop-item-preserved-in-Continue-1 c =
    let at = c.loop-item in
    let steps = c.in-Some.ensures.steps.0 in
    let other : is_first c.in-Some.item c.from-left.result.now ≡ false = sym c.is_first.ensures ∙ c.if-not-is_first.true in
    rw c.in_ok-push.ensures.items (
      one_more_found c.args.items.items c.args.others.now at.missing.items _ at.left.now c.in-Some.item _ c.from-left.result.now at.invariant.0 steps c.from-left.ensures other,
      moved at.missing.items _ _ c.in-Some.item _ steps at.invariant.1,
      let was = at.invariant.2 in let gone = c.in-Some.ensures.steps.1 in let short = ap length steps in omega arith,
    )

pub loop-item-preserved-else-not-is_first : goal.loop-item-preserved-else-not-is_first
loop-item-preserved-else-not-is_first c =
    let at = c.loop-item in
    let steps = c.in-Some.ensures.steps.0 in
    let same : is_first c.in-Some.item c.from-left.result.now ≡ true = sym c.is_first.ensures ∙ c.if-not-is_first.false in (
      one_more_shared c.args.items.items c.args.others.now at.missing.items _ at.left.now c.in-Some.item _ c.from-left.result.now at.invariant.0 steps c.from-left.ensures same,
      dropped at.missing.items _ _ c.in-Some.item _ steps at.invariant.1,
      let was = at.invariant.2 in let gone = c.in-Some.ensures.steps.1 in let short = ap length steps in omega arith,
    )

pub loop-item-preserved-else-not-is_first-2 : goal.loop-item-preserved-else-not-is_first-2
loop-item-preserved-else-not-is_first-2 c =
    let at = c.loop-item in
    let steps = c.in-Some.ensures.steps.0 in
    let same : is_first c.in-Some.item c.from-left.result.now ≡ true = sym c.is_first.ensures ∙ c.if-not-is_first.false in (
      one_more_shared c.args.items.items c.args.others.now at.missing.items _ at.left.now c.in-Some.item _ c.from-left.result.now at.invariant.0 steps c.from-left.ensures same,
      dropped at.missing.items _ _ c.in-Some.item _ steps at.invariant.1,
      let was = at.invariant.2 in let gone = c.in-Some.ensures.steps.1 in let short = ap length steps in omega arith,
    )

pub loop-item-preserved : goal.loop-item-preserved
loop-item-preserved c =
    let at = c.loop-item in
    let steps = c.in-Some.ensures.steps.0 in
    let same : is_first c.in-Some.item c.from-left.result.now ≡ true = sym c.is_first.ensures ∙ c.if-not-is_first.false in (
      one_more_shared c.args.items.items c.args.others.now at.missing.items _ at.left.now c.in-Some.item _ c.from-left.result.now at.invariant.0 steps c.from-left.ensures same,
      dropped at.missing.items _ _ c.in-Some.item _ steps at.invariant.1,
      let was = at.invariant.2 in let gone = c.in-Some.ensures.steps.1 in let short = ap length steps in omega arith,
    )

pub returns-clause-missing : goal.returns-clause-missing
returns-clause-missing c items_ordered others_ordered =
    let at = c.loop-item in
    let none = nothing_left (into_iter_items at.item-iterator) (sym at.invariant.2 ∙ c.in-None.ensures.steps.0) in
    c.new.ensures ∙ all_found c.args.items.items c.args.others.now at.missing.items _ at.left.now at.invariant.0 none items_ordered others_ordered
