use Rattle.std.proofs.Common.{◌≡◌, ◌∙◌, ◌++◌, ℕ, List, true, sym, ap, subst}
use Rattle.oai_names.specs.Names.{may_be_prefix}
use Rattle.oai_item.specs.Decoding.{first_field, first_list, first_record, first_text}
use Rattle.oai_item.specs.Encoding.{encoded_record, encoded_text}
use Rattle.oai_item.specs.Item.{Metadata}
use Rattle.oai_item.specs.SpellingParts.{IsFront, Stands}
use Rattle.oai_item.specs.Walks.{is_record}
use Rattle.oai_item.specs.declared.fields.Field.{Field}
use Rattle.oai_item.proofs.ReadBack.{record_back, text_back}
use Rattle.oai_item.proofs.Spellings.{fields_of_record, prefix_of_record, text_of_name}
use Rattle.oai_item.proofs.fronts.last_record.Goals as goal

pub first_text-requires : goal.first_text-requires
first_text-requires c = text_of_name may_be_prefix c.args.bytes.now (prefix_of_record c.args.bytes.now c.requires)

pub last_fields-requires : goal.last_fields-requires
last_fields-requires c = fields_of_record c.args.bytes.now c.first_text.result.1.now c.first_text.result.0.now c.first_text.ensures.1 c.requires

-- the prefix and the fields that the functions of the definitions read are those of the record that stands there
stands_there : (bytes : List ℕ) → Stands encoded_record (λ format. is_record format ≡ true) bytes → (prefix after : List ℕ) (fields : List Field)
    → bytes ≡ encoded_text prefix ++ after → fields ≡ (first_list first_field after).0
    → IsFront encoded_record (λ format. is_record format ≡ true) (prefix, fields) bytes (first_record bytes).1
unfolding first_record
stands_there bytes s prefix after fields cut is =
    let whole = record_back.back bytes s.value s.rest s.few s.parts in
    let name = text_back.back bytes prefix after s.few cut in
    let same : (prefix, fields) ≡ s.value =
    ap (λ (p : List ℕ). (p, fields)) (sym name.0)
    ∙ ap (λ (fs : List Field). ((first_text bytes).0, fs)) (is ∙ ap (λ (b : List ℕ). (first_list first_field b).0) (sym name.1))
    ∙ whole.0 in (
      subst (λ (format : Metadata). is_record format ≡ true) (sym same) s.good,
      s.parts ∙ ap (λ (format : Metadata). encoded_record format ++ s.rest) (sym same) ∙ ap (λ (b : List ℕ). encoded_record (prefix, fields) ++ b) (sym whole.1),
    )

pub returns : goal.returns
returns c = stands_there c.args.bytes.now c.requires _ _ _ c.first_text.ensures.1 c.last_fields.ensures
