-- Each item is left out, passed over or taken; at the end nothing is to come.
use Rattle.std.proofs.Common.{◌≡◌, ◌∙◌, ℕ, ◌+◌, ◌-◌, ◌<◌, Bool, List, [], ◌∷◌, ◌++◌, ap, append-nil, append_assoc, arith, drop, get_or, sym}
use Rattle.std.proofs.lemmas.List.{at_drop_all}
use Rattle.oai_item.specs.Item.{ItemState}
use Rattle.oai_item.specs.Selection.{passes, selected}
use Rattle.oai_catalogue.proofs.Parts.{fails-next, nothing, over-next, taken-next, to_come}
use Rattle.oai_catalogue.proofs.items.part.Goals as goal
use Rattle.oai_catalogue.proofs.items.part.Goals.{then-passes+then-before-eq0+in_ok-copy+in_ok-push, then-passes+else-before-eq0, else-passes, else-loop-item-test, then-loop-item-test+then-left-eq0}

pub loop-item-preserved : goal.loop-item-preserved
loop-item-preserved c =
    let items : List ItemState = c.args.items.now in
    let p : ItemState → Bool = passes c.args.filter.now in
    let i : ℕ = c.loop-item.item-index in
    let item : ItemState = c.item-item.result in
    let x : ItemState = get_or items i item in
    let place : item ≡ x = c.item-item.is in
    let part : List ItemState = c.loop-item.part.items in
    let test : p x ≡ c.passes.result = ap p (sym place) ∙ sym c.passes.ensures in
    let held = c.loop-item.invariant in
    let some : 0 < c.loop-item.left = omega (arith, c.if-left-eq0.false) in
    elim c.if-passes.branch [
      | then-passes+then-before-eq0+in_ok-copy+in_ok-push w ↦
          let pushed : c.if-passes.part.items ≡ part ++ x ∷ [] = ap (λ v. v.items) w.part-is ∙ w.in_ok-push.ensures.items ∙ ap (λ y. part ++ y ∷ []) (w.in_ok-copy.ensures ∙ place) in
          rw (pushed, w.before-is, w.left-is)
          (append_assoc part (x ∷ []) (to_come p c.loop-item.before (c.loop-item.left - 1) (drop (i + 1) items))
          ∙ ap (λ ys. part ++ ys) (sym (taken-next p c.loop-item.before c.loop-item.left items i item c.loop-item-test.true (test ∙ w.if-passes.true) (omega (arith, w.if-before-eq0.true)) some))
          ∙ held)
      | then-passes+else-before-eq0 w ↦
          rw (w.part-is, w.before-is, w.left-is)
          (ap (λ ys. part ++ ys) (sym (over-next p c.loop-item.before c.loop-item.left items i item c.loop-item-test.true (test ∙ w.if-passes.true) (omega (arith, w.if-before-eq0.false)))) ∙ held)
      | else-passes w ↦
          rw (w.part-is, w.before-is, w.left-is)
          (ap (λ ys. part ++ ys) (sym (fails-next p c.loop-item.before c.loop-item.left items i item c.loop-item-test.true (test ∙ w.if-passes.false))) ∙ held)
    ]

pub returns : goal.returns
unfolding selected
returns c =
    let items : List ItemState = c.args.items.now in
    let p : ItemState → Bool = passes c.args.filter.now in
    let part : List ItemState = c.loop-item.part.items in
    let rest : List ItemState = drop c.loop-item.item-index items in
    let none : to_come p c.loop-item.before c.loop-item.left rest ≡ [] = elim c.loop-item-test.branch [
      | else-loop-item-test w ↦ at_drop_all (to_come p c.loop-item.before c.loop-item.left) items c.loop-item.item-index (omega (arith, w.loop-item-test.false)) ∙ nothing p c.loop-item.before c.loop-item.left
      | then-loop-item-test+then-left-eq0 w ↦ let e : c.loop-item.left ≡ 0 = omega (arith, w.if-left-eq0.true) in ap (λ n. to_come p c.loop-item.before n rest) e
    ] in
    c.new.ensures ∙ sym (append-nil part) ∙ ap (λ ys. part ++ ys) (sym none) ∙ c.loop-item.invariant
