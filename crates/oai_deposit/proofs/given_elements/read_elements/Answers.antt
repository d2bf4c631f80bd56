-- One record more, one that is refused, and at the end.
use Rattle.std.proofs.Common.{◌≡◌, ◌∙◌, ℕ, List, [], ◌∷◌, ◌++◌, Bor, Vec, Global, map, length, refl, sym, ap, subst, arith}
use Rattle.std.proofs.lemmas.Result.{err_from_is_err_and}
use Rattle.std.specs.Vec.Iter.{into_iter_items}
use Rattle.oai_deposit.specs.Lines.{LineRecord}
use Rattle.oai_deposit.proofs.ElementLemmas.{AreReadSoFar, all_read, all_rising, fault_read, fault_with, kept_with, more_read, only_memory}
use Rattle.oai_deposit.proofs.given_elements.read_elements.Goals as goal

nothing_left : {X : Type 0} (l : List X) → length l ≡ 0 → l ≡ []
nothing_left [] h = refl
nothing_left (x ∷ xs) h = absurd (omega arith)

pub returns-in_err-about : goal.returns-in_err-about
returns-in_err-about c =
    let p = err_from_is_err_and c.from_residual.result c.from_residual.ensures.1 in
    rw (p.1, p.2) (only_memory (λ (texts : Vec (Bor (List ℕ)) Global). map (λ (text : Bor (List ℕ)). text.now) texts.items) _ c.in_err-about.field-0.0 _ c.in_err-about.ensures)

pub returns-in_err-fields : goal.returns-in_err-fields
returns-in_err-fields c =
    let at = c.loop-prefix in
    let abouts = c.args.abouts.now in
    let left = into_iter_items c.next.new.self in
    let r : LineRecord = (c.in-Some.prefix, c.in-Some.given) in
    let before : AreReadSoFar abouts c.args.texts at.invariant.0 (r ∷ left) at.records.items at.notes.items =
    subst (λ (rs : List LineRecord). AreReadSoFar abouts c.args.texts at.invariant.0 rs at.records.items at.notes.items) c.in-Some.ensures.steps.0 at.invariant.1 in
    let p = err_from_is_err_and c.from_residual-in_err-fields.result c.from_residual-in_err-fields.ensures.1 in
    let texts = rw c.as_str.ensures at c.in_ok-about.ensures in
    rw (p.1, p.2)
    (fault_read abouts c.args.texts at.invariant.0 left at.records.items at.notes.items r c.in_err-fields.field-0.0 before
    (fault_with abouts r _ c.in_err-fields.field-0.0 texts (c.in_err-fields.ensures.given r.0)))

pub loop-prefix-preserved : goal.loop-prefix-preserved
loop-prefix-preserved c =
    let at = c.loop-prefix in
    let abouts = c.args.abouts.now in
    let left = into_iter_items c.next.new.self in
    let r : LineRecord = (c.in-Some.prefix, c.in-Some.given) in
    let steps : into_iter_items at.prefix-iterator ≡ r ∷ left = c.in-Some.ensures.steps.0 in
    let before : AreReadSoFar abouts c.args.texts at.invariant.0 (r ∷ left) at.records.items at.notes.items =
    subst (λ (rs : List LineRecord). AreReadSoFar abouts c.args.texts at.invariant.0 rs at.records.items at.notes.items) steps at.invariant.1 in
    let texts = rw c.as_str.ensures at c.in_ok-about.ensures in
    let more = more_read abouts c.args.texts at.invariant.0 left at.records.items at.notes.items r c.in_ok-fields.fields c.in_ok-fields.note before
    (kept_with abouts r _ _ texts (c.in_ok-fields.ensures.given r.0)) c.in_ok-fields.ensures.noted in (
      at.invariant.0 ++ r ∷ [],
      rw (c.in_ok-push.ensures.items, c.in_ok-push-2.ensures.items) more,
      let was = at.invariant.2 in let gone = c.in-Some.ensures.steps.1 in let short = ap length steps in omega arith,
    )

pub new-requires-3-clause-rising : goal.new-requires-3-clause-rising
new-requires-3-clause-rising c =
    let at = c.loop-prefix in
    let left = into_iter_items at.prefix-iterator in
    let none : left ≡ [] = nothing_left left (sym at.invariant.2 ∙ c.in-None.ensures.steps.0) in
    rw c.new.ensures (all_rising c.args.abouts.now c.args.texts at.invariant.0 left at.records.items at.notes.items at.invariant.1 none c.into_vec-prefix-items.ensures.rising)

pub returns : goal.returns
returns c =
    let at = c.loop-prefix in
    let left = into_iter_items at.prefix-iterator in
    let none : left ≡ [] = nothing_left left (sym at.invariant.2 ∙ c.in-None.ensures.steps.0) in
    rw (c.new-3.ensures, c.new.ensures, c.new-2.ensures) (all_read c.args.abouts.now c.args.texts at.invariant.0 left at.records.items at.notes.items at.invariant.1 none)
