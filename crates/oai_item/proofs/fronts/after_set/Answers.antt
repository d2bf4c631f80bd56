use Rattle.std.proofs.Common.{subst}
use Rattle.oai_names.specs.Sets.{may_be_set_spec}
use Rattle.oai_item.specs.Decoding.{first_text}
use Rattle.oai_item.specs.SpellingParts.{IsNamed}
use Rattle.oai_item.proofs.Spellings.{text_is_cut, text_of_name}
use Rattle.oai_item.proofs.fronts.after_set.Goals as goal

pub after_text-requires : goal.after_text-requires
after_text-requires c = text_of_name may_be_set_spec c.args.bytes.now c.requires

-- the text that stands there is the setSpec, since no other one does
pub returns : goal.returns
returns c =
    let s = c.requires in
    let same = text_is_cut.cut c.args.bytes.now s.value (first_text c.args.bytes.now).0 s.rest c.after_text.result.now s.few s.parts c.after_text.ensures.1 in
    (subst (IsNamed may_be_set_spec) same.0 s.good, c.after_text.ensures.1)
