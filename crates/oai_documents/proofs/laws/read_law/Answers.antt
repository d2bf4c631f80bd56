use Rattle.std.proofs.Common.{◌∙◌, ap}
use Rattle.oai_xml.specs.Documents.{tree_in}
use Rattle.oai_xml.specs.LegalTexts.{is_legal_text}
use Rattle.oai_xml.proofs.LegalSpellings.{spelled_legal}
use Rattle.oai_documents.specs.DocumentTrees.{document_tree}
use Rattle.oai_documents.proofs.ReadBack.{file_tested, tree_read}
use Rattle.oai_documents.proofs.Records.{document_written}
use Rattle.oai_documents.proofs.WholeTrees.{document_whole}
use Rattle.oai_documents.proofs.laws.read_law.Goals as goal

pub returns-clause-text : goal.returns-clause-text
returns-clause-text c = λ d regular legal. ap is_legal_text (document_written d regular) ∙ file_tested (document_tree d) (spelled_legal (document_tree d) legal)

pub returns-clause-tree : goal.returns-clause-tree
returns-clause-tree c = λ d regular own room legal. ap tree_in (document_written d regular) ∙ tree_read (document_tree d) (document_whole d regular own room) (spelled_legal (document_tree d) legal)
