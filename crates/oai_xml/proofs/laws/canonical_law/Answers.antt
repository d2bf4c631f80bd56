use Rattle.std.proofs.Common.{◌∙◌, sym}
use Rattle.oai_xml.proofs.CanonicalLemmas.{canonical_tree, canonical_again, element_tested, element_found}
use Rattle.oai_xml.proofs.ReadWhole.{no_ok}
use Rattle.oai_xml.proofs.laws.canonical_law.Goals as goal

pub returns-clause-element : goal.returns-clause-element
returns-clause-element c = λ text e is. let t = canonical_tree text e is in (t.0, t.2)

pub returns-clause-tree : goal.returns-clause-tree
returns-clause-tree c = canonical_tree

pub returns-clause-again : goal.returns-clause-again
returns-clause-again c = canonical_again

pub returns-clause-tested : goal.returns-clause-tested
returns-clause-tested c = element_tested

pub returns-clause-found : goal.returns-clause-found
returns-clause-found c = element_found

pub returns-clause-faulty : goal.returns-clause-faulty
returns-clause-faulty c = λ text offset is element. no_ok offset text (sym is ∙ canonical_again text element)
