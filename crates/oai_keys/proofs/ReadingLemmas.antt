-- Keys in a text.
use Rattle.std.proofs.Common.{◌≡◌, ◌∙◌, ℕ, List, Option, Some, None, is_none, Result, Ok, Err, refl, ap, subst}
use Rattle.std.specs.List.{find}
use Rattle.serde_json.specs.Data.{Data}
use Rattle.serde_json.specs.View.{view}
use Rattle.serde_json.specs.declared.value.Value.{Value}
use Rattle.oai_names.specs.Optional.{◌>>=◌}
use Rattle.oai_json.specs.Json.{TakesMemory, json_in}
use Rattle.oai_json.proofs.JsonLemmas.{takes-read}
use Rattle.oai_config.specs.Configs.{NamedConfig}
use Rattle.oai_keys.specs.declared.faults.KeysFault.{KeysFault}
use Rattle.oai_keys.specs.declared.faults.KeysFault.TheVariants.{BadJson, BadShape, NoMemory, NoRepository, TooMany, Twice}
use Rattle.oai_keys.specs.declared.rings.Ring.{Ring}
use Rattle.oai_keys.specs.Reading.{AreKeys, rings_fault, first_fault, first_twice, is_too_long, is_unknown, rings_in, rings_of}
use Rattle.oai_keys.specs.ReadingWork.{GivesKeys, HasFirstFault, IsRingsText}

-- ---- the shape

-- the rings of the text's value
pub rings_of_value : (text : List ℕ) (value : Value) (result : Result (List Ring) KeysFault) → json_in text ≡ Some (view value)
    → GivesKeys result (rings_of (view value)) → IsRingsText text result
rings_of_value text value (Ok rings) is gives = ap (λ o. o >>= rings_of) is ∙ gives
rings_of_value text value (Err BadShape) is gives = (ap (λ o. is_none o) is, ap (λ o. o >>= rings_of) is ∙ gives)
rings_of_value text value (Err NoMemory) is gives = takes-read text (view value) is
rings_of_value text value (Err BadJson) is gives = absurd gives
rings_of_value text value (Err (NoRepository name)) is gives = absurd gives
rings_of_value text value (Err (Twice name)) is gives = absurd gives
rings_of_value text value (Err (TooMany name)) is gives = absurd gives

-- ---- the whole

json_none : (unknown twice long : Option Ring) → first_fault unknown twice long ≡ Some BadJson → ⊥
json_none (Some ring) twice long is = cc
json_none None (Some ring) long is = cc
json_none None None (Some ring) is = cc
json_none None None None is = cc

shape_none : (unknown twice long : Option Ring) → first_fault unknown twice long ≡ Some BadShape → ⊥
shape_none (Some ring) twice long is = cc
shape_none None (Some ring) long is = cc
shape_none None None (Some ring) is = cc
shape_none None None None is = cc

there_is : (o : Option Data) (rings : List Ring) → (o >>= rings_of) ≡ Some rings → (d : Data) × (o ≡ Some d)
there_is (Some d) rings is = (d, refl)
there_is None rings is = absurd cc

takes : (text : List ℕ) (rings : List Ring) → rings_in text ≡ Some rings → TakesMemory text
takes text rings is = let found = there_is (json_in text) rings is in takes-read text found.0 found.1

-- rings have no fault of a text
never_json : (repositories : List NamedConfig) (rings : List Ring) → rings_fault repositories rings ≡ Some BadJson → ⊥
unfolding rings_fault
never_json repositories rings is = json_none (find (is_unknown repositories) rings) (first_twice rings) (find is_too_long rings) is

never_shape : (repositories : List NamedConfig) (rings : List Ring) → rings_fault repositories rings ≡ Some BadShape → ⊥
unfolding rings_fault
never_shape repositories rings is = shape_none (find (is_unknown repositories) rings) (first_twice rings) (find is_too_long rings) is

-- the first fault of the rings in a text is that of the text
fault_of_rings : (repositories : List NamedConfig) (text : List ℕ) (rings : List Ring) (fault : KeysFault) → rings_in text ≡ Some rings
    → HasFirstFault repositories rings (Err fault) → AreKeys repositories text (Err fault)
fault_of_rings repositories text rings NoMemory is checked = takes text rings is
fault_of_rings repositories text rings (NoRepository name) is checked = (rings, is, checked)
fault_of_rings repositories text rings (Twice name) is checked = (rings, is, checked)
fault_of_rings repositories text rings (TooMany name) is checked = (rings, is, checked)
fault_of_rings repositories text rings BadJson is checked = absurd (never_json repositories rings checked)
fault_of_rings repositories text rings BadShape is checked = absurd (never_shape repositories rings checked)

pub fault_of_check : (repositories seen : List NamedConfig) (text : List ℕ) (rings looked : List Ring) (fault : KeysFault) → seen ≡ repositories → looked ≡ rings
    → rings_in text ≡ Some rings → HasFirstFault seen looked (Err fault) → AreKeys repositories text (Err fault)
fault_of_check repositories seen text rings looked fault one other is checked =
    let own = subst (λ (es : List NamedConfig). HasFirstFault es looked (Err fault)) one checked in
    fault_of_rings repositories text rings fault is (subst (λ (rs : List Ring). HasFirstFault repositories rs (Err fault)) other own)
