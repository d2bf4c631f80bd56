use Rattle.std.proofs.Common.{◌∙◌, sym}
use Rattle.oai_xml.proofs.LegalLemmas.{legal_whole}
use Rattle.oai_xml.proofs.places.legal_len.Goals as goal

pub returns-then-is_xml_text-clause-len : goal.returns-then-is_xml_text-clause-len
returns-then-is_xml_text-clause-len c = sym (legal_whole c.args.text.now c.utf8.text (sym c.is_xml_text.ensures ∙ c.if-is_xml_text.true))
