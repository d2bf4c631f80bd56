-- Words of the code's own: what its functions answer. No public contract names them.
use Rattle.std.specs.Prelude.{◌≡◌, ◌<◌, ◌⊎◌, ℕ, Bool, true, false, ◌==◌, ◌&&◌, not, List, [], ◌∷◌, ◌++◌, length, Option, Some, None, Result, Ok, Err}
use Rattle.std.specs.List.{flat_map, list_all}
use denote.Ref.{Bor}
use Rattle.oai_names.specs.Escapes.{escaped_attribute, escaped_text}
use Rattle.oai_xml.specs.Trees.{Attribute, spelled_attribute, text_of}
use Rattle.oai_xml.specs.Namespaces.{Scope, declared}
use Rattle.oai_xml.specs.Whole.{names_of}
use Rattle.oai_xml.specs.Readings.{Reading, Passing}
use Rattle.oai_xml.specs.Parts.{past_spaces}
use Rattle.oai_xml.specs.Contents.{character_in}
use Rattle.oai_xml.specs.Documents.{misc_in}
use Rattle.oai_xml.specs.declared.faults.ParseFault.{ParseFault}
use Rattle.oai_xml.specs.declared.faults.ParseStop.{ParseStop}
use Rattle.oai_xml.specs.declared.faults.ParseStop.TheVariants.{At, NoMemory}
use Rattle.oai_xml.specs.declared.values.Form.{Form}
use Rattle.oai_xml.specs.declared.values.Form.TheVariants.{Plain, Spelled}

-- ---- answers

-- what a function answers that reads so: `see` is what it hands out, as what is read
abbrev pub Gives : {R A : Type 0} → (R → A) → Result A ℕ → Result R ParseFault → Type 0
Gives see reading (Ok r) = reading ≡ Ok (see r)
Gives see reading (Err fault) = reading ≡ Err fault.left

-- a reading that stops so: at a fault, or since memory is wanting
abbrev pub Stops : {A : Type 0} → Result A ℕ → ParseStop → Type 0
Stops reading (At fault) = reading ≡ Err fault.left
Stops reading NoMemory = Unit {0}

-- the same of what is read in steps, no more of them than there are bytes
abbrev pub StopsIn : {A : Type 0} → (ℕ → Result A ℕ) → List ℕ → ParseStop → Type 0
StopsIn reading bytes (At fault) = (steps : ℕ) → length bytes < steps → reading steps ≡ Err fault.left
StopsIn reading bytes NoMemory = Unit {0}

-- what a function answers that needs memory, where what is read leaves something behind
abbrev pub Leaves : {R A : Type 0} → (R → A → Type 0) → Result A ℕ → Result R ParseStop → Type 0
Leaves {A = A} left reading (Ok r) = (a : A) × (reading ≡ Ok a) × left r a
Leaves left reading (Err stop) = Stops reading stop

-- the same of what is read in steps
abbrev pub LeavesIn : {R A : Type 0} → (R → A → Type 0) → (ℕ → Result A ℕ) → List ℕ → Result R ParseStop → Type 0
LeavesIn {A = A} left reading bytes (Ok r) = (a : A) × ((steps : ℕ) → length bytes < steps → reading steps ≡ Ok a) × left r a
LeavesIn left reading bytes (Err stop) = StopsIn reading bytes stop

-- ---- steps

-- a reading, with what was read before it
abbrev pub before : {A : Type 0} → (A → A → A) → A → Reading A → Reading A
before join done (Ok r) = Ok (join done r.0, r.1)
before join done (Err left) = Err left

-- in however many steps the bytes are read, what is read of them is a piece, and what is read of the rest
pub record Goes {A : Type 0} (join : A → A → A) (reading : ℕ → List ℕ → Reading A) (bytes rest : List ℕ) (piece : A) : Type 0 where
  pub goes : (steps : ℕ) → length bytes < steps → (others : ℕ) × (length rest < others) × (reading steps bytes ≡ before join piece (reading others rest))

-- what a function answers that reads one such piece
abbrev pub LeavesPiece : {R A : Type 0} → (A → A → A) → (ℕ → List ℕ → Reading A) → (R → List ℕ) → (R → A → Type 0) → List ℕ → Result R ParseStop → Type 0
LeavesPiece {A = A} join reading rest left bytes (Ok r) = (piece : A) × Goes join reading bytes (rest r) piece × left r piece
LeavesPiece join reading rest left bytes (Err stop) = StopsIn (λ steps. reading steps bytes) bytes stop

-- ---- values

-- a value, as it is appended
abbrev pub formed : Form → List ℕ → List ℕ
formed Plain value = value
formed Spelled value = escaped_attribute value

-- a byte of a value that stands for itself, however it is written
abbrev pub is_bare_value_byte : ℕ → Bool
is_bare_value_byte b = not (b == 34) && not (b == 39) && not (b == 38) && not (b == 60) && not (b == 62) && not (b == 9) && not (b == 10) && not (b == 13)

-- the value is closed here
abbrev pub is_closed : ℕ → List ℕ → Bool
is_closed quote [] = false
is_closed quote (b ∷ bytes) = b == quote

-- ---- attributes

-- what these attributes leave: their names, what they declare, and their spelling
pub record Tells (attributes : List Attribute) (names new_names : List (List ℕ)) (scope new_scope : Scope) (out new_out : List ℕ) : Type 0 where
  pub names_are : new_names ≡ names ++ names_of attributes
  pub scope_is : new_scope ≡ scope ++ declared attributes
  pub out_is : new_out ≡ out ++ flat_map spelled_attribute attributes

-- what adds to the scope what an attribute of that name declares, of which the value is read once more
abbrev pub Declares : List ℕ → Reading (List ℕ) → Scope → Scope → Result (Unit {0}) ParseStop → Type 0
Declares name reading old new (Ok done) =
    (value : List ℕ) (rest : List ℕ) → reading ≡ Ok (value, rest) → new ≡ old ++ declared (record { name = name; value = value } ∷ [])
Declares name reading old new (Err stop) = Stops reading stop

-- ---- texts

-- a byte of a text that stands for itself, whatever follows it
abbrev pub is_bare_text_byte : ℕ → Bool
is_bare_text_byte b = not (b == 38) && not (b == 60) && not (b == 62) && not (b == 93) && not (b == 13)

-- what a function answers that appends some of a text: bytes that stand for themselves, or one byte
abbrev pub AreCharacters : List ℕ → List ℕ → List ℕ → Result (Bor (List ℕ)) ParseStop → Type 0
AreCharacters bytes old new (Ok rest) =
    (run : List ℕ) × (bytes ≡ run ++ rest.now) × (0 < length run) × (new ≡ old ++ escaped_text run)
    × ((list_all is_bare_text_byte run ≡ true) ⊎ (character_in bytes ≡ Ok (text_of run, rest.now)))
AreCharacters bytes old new (Err stop) = Stops (character_in bytes) stop

-- ---- miscellaneous

-- in however many steps the bytes are passed, they come to the same as the rest
pub record ContinuesAs (passing : ℕ → List ℕ → Passing) (bytes rest : List ℕ) : Type 0 where
  pub goes_on : (steps : ℕ) → length bytes < steps → (others : ℕ) × (length rest < others) × (passing steps bytes ≡ passing others rest)

-- what a function answers that passes bytes in steps, no more of them than there are bytes
abbrev pub PassesIn : (ℕ → List ℕ → Passing) → List ℕ → Result (Bor (List ℕ)) ParseFault → Type 0
PassesIn passing bytes (Ok rest) = (steps : ℕ) → length bytes < steps → passing steps bytes ≡ Ok rest.now
PassesIn passing bytes (Err fault) = (steps : ℕ) → length bytes < steps → passing steps bytes ≡ Err fault.left

-- what a function answers that passes one of them, and the white space before it: none where the white space is all
abbrev pub PassesOne : List ℕ → Result (Option (Bor (List ℕ))) ParseFault → Type 0
PassesOne bytes (Ok (Some rest)) = ContinuesAs misc_in bytes rest.now × (length rest.now < length bytes)
PassesOne bytes (Ok None) = (steps : ℕ) → length bytes < steps → misc_in steps bytes ≡ Ok (past_spaces bytes)
PassesOne bytes (Err fault) = (steps : ℕ) → length bytes < steps → misc_in steps bytes ≡ Err fault.left
