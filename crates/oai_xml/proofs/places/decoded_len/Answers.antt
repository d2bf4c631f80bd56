use Rattle.std.proofs.Common.{◌∙◌, sym}
use Rattle.std.specs.Str.Iter.{chars_rest}
use Rattle.oai_xml.proofs.LegalLemmas.{legal_more, legal_stop, legal_end}
use Rattle.oai_xml.proofs.places.decoded_len.Goals as goal

pub returns-then-not-is_xml_char-clause-len : goal.returns-then-not-is_xml_char-clause-len
returns-then-not-is_xml_char-clause-len c =
    legal_stop c.args.text.now (chars_rest c.loop-c.c-iterator) (chars_rest c.next.new.self) c.in-Some.c c.loop-c.len c.loop-c.invariant.2 c.in-Some.ensures.steps.0
    (sym c.is_xml_char.ensures ∙ c.if-not-is_xml_char.true) c.loop-c.invariant.0

pub loop-c-preserved : goal.loop-c-preserved
loop-c-preserved c =
    legal_more c.args.text.now (chars_rest c.loop-c.c-iterator) (chars_rest c.next.new.self) c.in-Some.c c.loop-c.len c.len_utf8-len.result c.loop-c.invariant.2 c.in-Some.ensures.steps.0
    (sym c.is_xml_char.ensures ∙ c.if-not-is_xml_char.false) c.len_utf8-len.ensures.value c.loop-c.invariant.0 c.loop-c.invariant.1

pub returns-clause-len : goal.returns-clause-len
returns-clause-len c = legal_end c.args.text.now (chars_rest c.loop-c.c-iterator) c.loop-c.len c.in-None.ensures.steps.0.0 c.loop-c.invariant.0
