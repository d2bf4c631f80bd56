use Rattle.std.proofs.Common.{◌≡◌, ◌∙◌, ◌+◌, List, ℕ, ap, arith, false, nat_eq, subst, sym}
use Rattle.std.specs.List.{starts_with}
use Rattle.std.proofs.lemmas.List.{take_rest}
use Rattle.oai_item.specs.Membership.{is_in}
use Rattle.oai_names.specs.Sets.{covers}
use Rattle.oai_places.proofs.PickingLemmas.{AreLeftToTest, all_tested, next_set, none_tested, not_covered, sets_many}
use Rattle.oai_places.proofs.picking.may_have.Goals as goal

pub sets-init : goal.sets-init
sets-init c = none_tested _ c.args.bytes.now _ (take_rest c.args.bytes.now 4)

pub sets-preserved : goal.sets-preserved
sets-preserved c = λ sets behind left few e many.
    let front = c.as_bytes-front.result.now in
    let h = next_set front sets left c.sets.rest.now (c.sets.invariant sets behind (left + 1) few e (omega (arith, many))) in
    let parts = c.in-Some.ensures.parts h.text h.behind h.few h.parts in
    let fails : covers front h.text ≡ false = not_covered front h.text (ap (λ t. starts_with nat_eq t front) (sym parts.0) ∙ sym c.starts_with.ensures.value ∙ c.if-starts_with.false) in
    subst (λ (bs : List ℕ). AreLeftToTest front sets left bs) (sym parts.1) (h.next fails)

pub returns : goal.returns
returns c = λ sets behind few e found.
    let many = (sets_many c.args.bytes.now sets behind few e).0 in
    ap (λ front. is_in front sets) (sym c.as_bytes-front.ensures.value)
    ∙ all_tested c.as_bytes-front.result.now sets c.sets.rest.now (c.sets.invariant sets behind 0 few e (omega (arith, many, c.sets.auto.counter-end, c.sets-test.false, c.first_number-end.ensures)))
