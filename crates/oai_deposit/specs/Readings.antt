-- What a call returns that reads a part of a line: the part, or why the line is refused. This repository's own words.
use Rattle.std.specs.Prelude.{◌≡◌, Bool, if◌then◌else◌, Option, Some, None, Result, Ok, Err}
use Rattle.oai_item.specs.declared.refusals.LineRefusal.{LineRefusal}
use Rattle.oai_item.specs.declared.refusals.LineRefusal.TheVariants.{BadCommand}
use Rattle.oai_deposit.specs.declared.faults.LineFault.{LineFault}
use Rattle.oai_deposit.specs.declared.faults.LineFault.TheVariants.{NoMemory, Refused}

-- the value, if it passes the test, and otherwise the refusal
abbrev pub passed : {A : Type 0} → Bool → LineRefusal → A → Result A LineRefusal
passed test refusal x = if test then Ok x else Err refusal

-- a call returned the part, seen by the view; or out of memory, and then the condition is true
abbrev pub GivesBy : {A B : Type 0} → (A → B) → Type 0
    → Result A LineFault → Result B LineRefusal → Type 0
GivesBy view condition (Ok x) reading = reading ≡ Ok (view x)
GivesBy view condition (Err (Refused refusal)) reading = reading ≡ Err refusal
GivesBy view condition (Err NoMemory) reading = condition

-- a call returned the part itself; or out of memory, and then the condition is true
abbrev pub ReturnsReading : {A : Type 0} → Type 0 → Result A LineFault → Result A LineRefusal → Type 0
ReturnsReading condition result reading = GivesBy (λ x. x) condition result reading

-- a call returned the part, seen by the view; or, if there is none, that refusal; or out of memory, and then the
-- condition is true
abbrev pub FindsBy : {A B : Type 0} → LineRefusal → (A → B) → Type 0 → Result A LineFault → Option B → Type 0
FindsBy refusal view condition (Ok x) reading = reading ≡ Some (view x)
FindsBy refusal view condition (Err (Refused cause)) reading = (reading ≡ None) × (cause ≡ refusal)
FindsBy refusal view condition (Err NoMemory) reading = condition

-- a call returned the part; or, if there is none, the refusal that it is no command; or out of memory, and then the
-- condition is true
abbrev pub Finds : {A : Type 0} → Type 0 → Result A LineFault → Option A → Type 0
Finds condition result reading = FindsBy BadCommand (λ x. x) condition result reading
