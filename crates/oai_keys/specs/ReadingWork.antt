-- What the calls return that read parts of a text, step by step. Words that tie the code to the definitions; the
-- contract of the whole (`Reading`) needs none of them.
use Rattle.std.specs.Prelude.{◌≡◌, ℕ, false, List, Option, None, Some, is_none, Result, Ok, Err}
use Rattle.oai_json.specs.Json.{TakesMemory, json_in}
use Rattle.oai_config.specs.Configs.{NamedConfig}
use Rattle.oai_keys.specs.declared.faults.KeysFault.{KeysFault}
use Rattle.oai_keys.specs.declared.faults.KeysFault.TheVariants.{BadJson, BadShape, NoMemory}
use Rattle.oai_keys.specs.declared.rings.Ring.{Ring}
use Rattle.oai_keys.specs.Reading.{rings_fault, rings_in}

-- a call returned the part, or out of memory
abbrev pub GivesKeys : {A : Type 0} → Result A KeysFault → Option A → Type 0
GivesKeys (Ok x) reading = reading ≡ Some x
GivesKeys (Err BadShape) reading = reading ≡ None
GivesKeys (Err NoMemory) reading = Unit {0}
GivesKeys (Err fault) reading = ⊥

-- the rings in the text, or why it has none
abbrev pub IsRingsText : List ℕ → Result (List Ring) KeysFault → Type 0
IsRingsText text (Ok rings) = rings_in text ≡ Some rings
IsRingsText text (Err BadJson) = json_in text ≡ None
IsRingsText text (Err BadShape) = (is_none (json_in text) ≡ false) × (rings_in text ≡ None)
IsRingsText text (Err NoMemory) = TakesMemory text
IsRingsText text (Err fault) = ⊥

-- the rings have no fault, or this first one; or memory ran out
abbrev pub HasFirstFault : List NamedConfig → List Ring → Result (Unit {0}) KeysFault → Type 0
HasFirstFault repositories rings (Ok done) = rings_fault repositories rings ≡ None
HasFirstFault repositories rings (Err NoMemory) = Unit {0}
HasFirstFault repositories rings (Err fault) = rings_fault repositories rings ≡ Some fault
