use Rattle.oai_xml.proofs.CanonicalLemmas.{spelling_cut, one_tree, elements_cut}
use Rattle.oai_xml.proofs.laws.spelling_law.Goals as goal

pub returns-clause-trees : goal.returns-clause-trees
returns-clause-trees c = spelling_cut

pub returns-clause-tree : goal.returns-clause-tree
returns-clause-tree c = one_tree

pub returns-clause-elements : goal.returns-clause-elements
returns-clause-elements c = elements_cut
