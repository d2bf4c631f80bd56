use Rattle.oai_documents.proofs.SchemaLemmas.{document_is}
use Rattle.oai_documents.proofs.laws.schema_law.Goals as goal

pub returns : goal.returns
returns c = document_is
