-- One element more, one that is refused, and at the end.
use Rattle.std.proofs.Common.{◌<◌, ◌≤◌, Vec, Global, length, arith}
use Rattle.std.proofs.lemmas.Result.{err_from_is_err_and}
use Rattle.oai_item.specs.Givens.{field_texts}
use Rattle.oai_item.specs.declared.fields.Field.{Field}
use Rattle.oai_deposit.proofs.ElementLemmas.{about_more, element_about, next_fault, next_more, texts_end}
use Rattle.oai_deposit.proofs.given_elements.about_fields.Goals as goal

pub loop-text-preserved : goal.loop-text-preserved
loop-text-preserved c =
    let l = c.loop-text in
    let inside : l.text-index < length c.args.texts.now = omega arith in
    rw (c.in_ok-push.ensures.items, c.in_ok-field_of.ensures) (
      next_more l.fields.items c.args.texts.now l.text-index _ _ _ inside c.in_ok-about.ensures l.invariant.0,
      about_more l.fields.items _ l.invariant.1 (element_about _ _ c.in_ok-about.ensures),
    )

pub returns-in_err-about-clause-texts : goal.returns-in_err-about-clause-texts
returns-in_err-about-clause-texts c =
    let l = c.loop-text in
    let inside : l.text-index < length c.args.texts.now = omega arith in
    let p = err_from_is_err_and c.from_residual.result c.from_residual.ensures.1 in
    rw (p.1, p.2)
    (next_fault (λ (fields : Vec Field Global). field_texts fields.items) l.fields.items c.args.texts.now l.text-index _ c.in_err-about.field-0.0 _ inside c.in_err-about.ensures l.invariant.0)

pub returns-clause-texts : goal.returns-clause-texts
returns-clause-texts c =
    let l = c.loop-text in
    let past : length c.args.texts.now ≤ l.text-index = omega arith in
    texts_end l.fields.items c.args.texts.now l.text-index _ past l.invariant.0
