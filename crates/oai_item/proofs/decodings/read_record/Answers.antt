use Rattle.oai_item.specs.Encoding.{encoded_text}
use Rattle.oai_item.proofs.Spellings.{few_behind, fields_of_record, prefix_of_record, record_of_parts}
use Rattle.oai_item.proofs.decodings.read_record.Goals as goal

pub read_fields-requires : goal.read_fields-requires
read_fields-requires c = few_behind c.args.bytes.now (encoded_text c.in_ok-prefix.prefix.now) c.in_ok-prefix.rest.now c.in_ok-prefix.ensures.1 c.requires

pub returns-in_err-prefix : goal.returns-in_err-prefix
returns-in_err-prefix c = rw c.from_residual.ensures (λ s. c.in_err-prefix.ensures (prefix_of_record c.args.bytes.now s))

pub returns-in_err-fields : goal.returns-in_err-fields
returns-in_err-fields c = rw c.from_residual-in_err-fields.ensures (λ s. c.in_err-fields.ensures (fields_of_record c.args.bytes.now c.in_ok-prefix.rest.now c.in_ok-prefix.prefix.now c.in_ok-prefix.ensures.1 s))

pub returns : goal.returns
returns c =
    record_of_parts c.args.bytes.now c.in_ok-prefix.rest.now c.in_ok-fields.rest.now (c.in_ok-prefix.prefix.now, c.in_ok-fields.fields)
    c.in_ok-prefix.ensures.0 c.in_ok-prefix.ensures.1 c.in_ok-fields.ensures.0 c.in_ok-fields.ensures.1
