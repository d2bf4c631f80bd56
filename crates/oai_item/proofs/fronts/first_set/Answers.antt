use Rattle.std.proofs.Common.{subst}
use Rattle.oai_names.specs.Sets.{may_be_set_spec}
use Rattle.oai_item.specs.SpellingParts.{IsNamed}
use Rattle.oai_item.proofs.Spellings.{text_is_cut, text_of_name}
use Rattle.oai_item.proofs.fronts.first_set.Goals as goal

pub first_text-requires : goal.first_text-requires
first_text-requires c = text_of_name may_be_set_spec c.args.bytes.now c.requires

-- the text that stands there is the setSpec, since no other one does
pub returns : goal.returns
returns c =
    let s = c.requires in
    let same = text_is_cut.cut c.args.bytes.now s.value c.first_text.result.0.now s.rest c.first_text.result.1.now s.few s.parts c.first_text.ensures.1 in
    (subst (IsNamed may_be_set_spec) same.0 s.good, c.first_text.ensures.1)
