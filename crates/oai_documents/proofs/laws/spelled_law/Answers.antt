use Rattle.oai_documents.proofs.Records.{document_written}
use Rattle.oai_documents.proofs.laws.spelled_law.Goals as goal

pub returns : goal.returns
returns c = document_written
