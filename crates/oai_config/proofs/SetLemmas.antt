-- The elements that describe sets, of the members of an object.
use Rattle.std.proofs.Common.{◌≡◌, ◌∙◌, ℕ, List, Some, BTreeMap, Global, String, map, ap}
use Rattle.serde_json.specs.Data.{Data}
use Rattle.serde_json.specs.View.{view}
use Rattle.serde_json.specs.declared.value.Value.{Value, Object}
use Rattle.serde_json.proofs.Views.{view-Object}
use Rattle.oai_names.specs.Optional.{◌>>=◌, each_of}
use Rattle.oai_json.proofs.JsonLemmas.{members_in-members_view, seen}
use Rattle.oai_config.specs.Shapes.{canonical_of, set_description_of, set_descriptions_of}

pub set_descriptions_of-Object : (m : BTreeMap (String Global) Value) → set_descriptions_of (view (Object m)) ≡ each_of set_description_of (map seen m.entries)
unfolding set_descriptions_of
set_descriptions_of-Object m = ap set_descriptions_of (view-Object m) ∙ ap (each_of set_description_of) (members_in-members_view m.entries)

pub set_description_of-Some : (m : List ℕ × Data) (elements : List (List ℕ)) → canonical_of m.1 ≡ Some elements → set_description_of m ≡ Some (m.0, elements)
unfolding set_description_of
set_description_of-Some m elements is = ap (λ r. r >>= λ elements. Some (m.0, elements)) is
