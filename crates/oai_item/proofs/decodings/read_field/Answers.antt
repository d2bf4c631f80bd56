use Rattle.std.proofs.Common.{refl}
use Rattle.oai_item.proofs.Spellings.{field_of_parts, name_of_field, text_of_field}
use Rattle.oai_item.proofs.decodings.read_field.Goals as goal

pub returns-in_err-name : goal.returns-in_err-name
returns-in_err-name c = rw c.from_residual.ensures (λ s. c.in_err-name.ensures (name_of_field c.args.bytes.now s))

pub returns-in_err-text : goal.returns-in_err-text
returns-in_err-text c = rw c.from_residual-in_err-text.ensures (λ s. c.in_err-text.ensures (text_of_field c.args.bytes.now c.in_ok-name.rest.now c.in_ok-name.name.now c.in_ok-name.ensures.1 s))

pub returns : goal.returns
returns c =
    field_of_parts c.args.bytes.now c.in_ok-name.rest.now c.in_ok-text.rest.now c.in_ok-name.name.now c.in_ok-text.text.now
    (record { name = c.in_ok-name.name.now; text = c.in_ok-text.text.now }) refl refl c.in_ok-name.ensures c.in_ok-text.ensures
