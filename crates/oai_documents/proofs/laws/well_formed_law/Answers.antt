use Rattle.oai_documents.proofs.WholeTrees.{document_whole}
use Rattle.oai_documents.proofs.laws.well_formed_law.Goals as goal

pub returns : goal.returns
returns c = document_whole
