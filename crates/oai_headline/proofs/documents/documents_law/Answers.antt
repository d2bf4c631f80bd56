use Rattle.oai_headline.proofs.XmlLemmas.{answered_in_xml, answered_in_xml_over}
use Rattle.oai_headline.proofs.documents.documents_law.Goals as goal

pub returns : goal.returns
returns c = record { answered = answered_in_xml; over = answered_in_xml_over }
