-- The elements that are read are of XML's characters, so the fields decide.
use Rattle.std.proofs.Common.{◌∙◌, ap, sym}
use Rattle.oai_deposit.specs.Calls.{have_xml_fields}
use Rattle.oai_deposit.proofs.ElementLemmas.{fields_xml}
use Rattle.oai_deposit.proofs.given_elements.have_xml_texts.Goals as goal

pub returns : goal.returns
returns c = λ abouts read is. fields_xml abouts c.args.texts.now read is ∙ ap have_xml_fields (sym c.as_slice.ensures) ∙ sym c.have_xml_fields.ensures
