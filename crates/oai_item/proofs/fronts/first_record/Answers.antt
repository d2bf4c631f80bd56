use Rattle.std.proofs.Common.{subst}
use Rattle.oai_names.specs.Names.{may_be_prefix}
use Rattle.oai_item.specs.SpellingParts.{IsNamed}
use Rattle.oai_item.proofs.Spellings.{fields_of_record, prefix_of_record, record_of_parts, text_is_cut, text_of_name}
use Rattle.oai_item.proofs.fronts.first_record.Goals as goal

pub first_text-requires : goal.first_text-requires
first_text-requires c = text_of_name may_be_prefix c.args.bytes.now (prefix_of_record c.args.bytes.now c.requires)

pub first_fields-fields-requires : goal.first_fields-fields-requires
first_fields-fields-requires c = fields_of_record c.args.bytes.now c.first_text.result.1.now c.first_text.result.0.now c.first_text.ensures.1 c.requires

-- the text that was read is the prefix, since no other text stands there
pub returns : goal.returns
returns c =
    let s = prefix_of_record c.args.bytes.now c.requires in
    let same = text_is_cut.cut c.args.bytes.now s.value c.first_text.result.0.now s.rest c.first_text.result.1.now s.few s.parts c.first_text.ensures.1 in
    record_of_parts c.args.bytes.now c.first_text.result.1.now c.first_fields-fields.result.1.now (c.first_text.result.0.now, c.first_fields-fields.result.0)
    (subst (IsNamed may_be_prefix) same.0 s.good) c.first_text.ensures.1 c.first_fields-fields.ensures.0 c.first_fields-fields.ensures.1
