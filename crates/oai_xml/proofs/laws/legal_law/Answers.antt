use Rattle.oai_xml.proofs.LegalSpellings.{spelled_legal}
use Rattle.oai_xml.proofs.laws.legal_law.Goals as goal

pub returns : goal.returns
returns c = spelled_legal
