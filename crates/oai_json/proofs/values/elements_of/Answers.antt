use Rattle.oai_json.proofs.JsonLemmas.{elements_of-Some}
use Rattle.oai_json.proofs.values.elements_of.Goals as goal

pub returns-in-Some : goal.returns-in-Some
returns-in-Some c = rw c.as_slice.ensures.value (elements_of-Some _ _ c.in-Some.ensures)
