use Rattle.std.proofs.Common.{◌≢◌, arith}
use Rattle.oai_item.specs.Decoding.{first_field}
use Rattle.oai_item.specs.Encoding.{encoded_field}
use Rattle.oai_item.specs.declared.fields.Field.{Field}
use Rattle.oai_item.specs.Encoding.{is_text_field}
use Rattle.oai_item.proofs.ReadBack.{field_back}
use Rattle.oai_item.proofs.Walking.{next_is, next_stands, none_left}
use Rattle.oai_item.proofs.walks.SpelledFields.next.Goals as goal

pub returns-then-self-eq0 : goal.returns-then-self-eq0
returns-then-self-eq0 c = rw (← c.self.view_is) (none_left first_field c.self.inside.left c.self.inside.rest.now (omega (arith, c.if-self-eq0.true)))

-- where some are to come, the next one stands
pub first_field-requires : goal.first_field-requires
first_field-requires c =
    let some : c.self.inside.left ≢ 0 = λ e. omega (arith, e, c.if-self-eq0.false) in
    next_stands first_field encoded_field is_text_field c.self.inside.rest.now c.self.inside.left some c.self.invariant

pub invariant_of-self : goal.invariant_of-self
invariant_of-self c =
    let x : Field = record { name = c.first_field.result.0.name.now; text = c.first_field.result.0.text.now } in
    let some : c.self.inside.left ≢ 0 = λ e. omega (arith, e, c.if-self-eq0.false) in
    (next_is first_field encoded_field is_text_field field_back c.self.inside.rest.now c.first_field.result.1.now c.self.inside.left x some c.self.invariant c.first_field.ensures.1).spelled_behind

pub returns : goal.returns
returns c =
    let x : Field = record { name = c.first_field.result.0.name.now; text = c.first_field.result.0.text.now } in
    let some : c.self.inside.left ≢ 0 = λ e. omega (arith, e, c.if-self-eq0.false) in
    rw (← c.self.view_is) (next_is first_field encoded_field is_text_field field_back c.self.inside.rest.now c.first_field.result.1.now c.self.inside.left x some c.self.invariant c.first_field.ensures.1).is
