-- Documents, as the code reads them, and the texts that they are.
use Rattle.std.proofs.Common.{◌≡◌, ◌∙◌, ◌-◌, ◌<◌, ℕ, suc, true, false, ◌&&◌, cond, eqb, List, [], ◌∷◌, ◌++◌, Result, Ok, Err, length, take, refl, sym, ap, arith}
use Rattle.std.specs.Prelude.{codes}
use Rattle.std.specs.List.{list_any}
use Rattle.std.specs.Str.{chars, IsUtf8, is_utf8}
use Rattle.std.proofs.lemmas.Bool.{and_from, and_left, and_right, eq-eqb, false_from_ne_true, or_parts, cond-true, cond-false}
use Rattle.std.proofs.lemmas.Str.{IsUtf8-from_is_utf8, is_utf8-from_IsUtf8}
use Rattle.oai_names.specs.Characters.{is_xml_text}
use Rattle.oai_xml.specs.Answers.{Stops, StopsIn}
use Rattle.oai_xml.specs.Readings.{Passing, ◌>>=◌, past}
use Rattle.oai_xml.specs.Trees.{Tree, spelled}
use Rattle.oai_xml.specs.Contents.{element_in, content_in}
use Rattle.oai_xml.specs.Documents.{opening_in, misc_in, prolog_in, tail_in, root_in, document_in, legal_len, legal_front, lines, normalized, origin, with_fault_place, place_of, is_spelled_text, accepted_tree, element_of, canonical}
use Rattle.oai_xml.specs.Reads.{IsCanonicalResult, IsFrontRead, IsTakenAsElement, IsFaultOf, IsAtSamePlace}
use Rattle.oai_xml.specs.declared.faults.ParseStop.{ParseStop}
use Rattle.oai_xml.specs.declared.faults.ParseStop.TheVariants.{At}
use Rattle.oai_xml.specs.declared.faults.ParseStop.TheVariants as stop
use Rattle.oai_xml.specs.declared.faults.XmlFault.{XmlFault}
use Rattle.oai_xml.specs.declared.faults.XmlFault.TheVariants.{Refused}
use Rattle.oai_xml.specs.declared.faults.XmlFault.TheVariants as fault
use Rattle.oai_xml.specs.declared.limits.TheConstants.{MAX_DEPTH}

document_steps : (bytes : List ℕ) (r : Passing) → prolog_in bytes ≡ r → document_in bytes ≡ (r >>= λ rest. root_in rest >>= λ e. tail_in e.1 >>= λ end. Ok e.0)
unfolding document_in
document_steps bytes r is = ap (λ r. r >>= λ rest. root_in rest >>= λ e. tail_in e.1 >>= λ end. Ok e.0) is

pub prolog_fails : (bytes : List ℕ) (left : ℕ) → prolog_in bytes ≡ Err left → document_in bytes ≡ Err left
prolog_fails bytes left is = document_steps bytes (Err left) is

pub root_stops : (bytes tag : List ℕ) (s : ParseStop) → prolog_in bytes ≡ Ok tag → StopsIn (λ steps. element_in (content_in steps) MAX_DEPTH [] tag) tag s → Stops (document_in bytes) s
root_stops bytes tag (At fault) is wrong =
    document_steps bytes (Ok tag) is ∙ ap (λ r. r >>= λ e. tail_in e.1 >>= λ end. Ok e.0) (wrong (suc (length tag)) (omega arith))
root_stops bytes tag stop.NoMemory is wrong = tt

pub tail_fails : (bytes tag behind : List ℕ) (e : Tree × List ℕ) (left : ℕ) → prolog_in bytes ≡ Ok tag
    → ((steps : ℕ) → length tag < steps → element_in (content_in steps) MAX_DEPTH [] tag ≡ Ok e) → behind ≡ e.1 → tail_in behind ≡ Err left → document_in bytes ≡ Err left
tail_fails bytes tag behind e left is reading at wrong =
    document_steps bytes (Ok tag) is ∙ ap (λ r. r >>= λ e. tail_in e.1 >>= λ end. Ok e.0) (reading (suc (length tag)) (omega arith))
    ∙ ap (λ r. r >>= λ end. Ok e.0) (ap tail_in (sym at) ∙ wrong)

pub document_done : (bytes tag behind old new : List ℕ) (e : Tree × List ℕ) → prolog_in bytes ≡ Ok tag
    → ((steps : ℕ) → length tag < steps → element_in (content_in steps) MAX_DEPTH [] tag ≡ Ok e) → behind ≡ e.1 → tail_in behind ≡ Ok [] → new ≡ old ++ spelled e.0
    → (t : Tree) × (document_in bytes ≡ Ok t) × (new ≡ old ++ spelled t)
document_done bytes tag behind old new e is reading at end grown = (
  e.0,
  document_steps bytes (Ok tag) is ∙ ap (λ r. r >>= λ e. tail_in e.1 >>= λ end. Ok e.0) (reading (suc (length tag)) (omega arith))
      ∙ ap (λ r. r >>= λ end. Ok e.0) (ap tail_in (sym at) ∙ end),
  grown,
)

-- ---- the end

tail_steps : (bytes : List ℕ) (r : Passing) → misc_in (suc (length bytes)) bytes ≡ r → tail_in bytes ≡ (r >>= λ rest. cond (eqb (length rest) 0) (Ok []) (Err (length rest)))
unfolding tail_in
tail_steps bytes r is = ap (λ r. r >>= λ rest. cond (eqb (length rest) 0) (Ok []) (Err (length rest))) is

pub tail_ended : (bytes rest : List ℕ) → misc_in (suc (length bytes)) bytes ≡ Ok rest → eqb (length rest) 0 ≡ true → tail_in bytes ≡ Ok []
tail_ended bytes rest is none = tail_steps bytes (Ok rest) is ∙ cond-true (eqb (length rest) 0) _ _ none

pub tail_more : (bytes rest : List ℕ) → misc_in (suc (length bytes)) bytes ≡ Ok rest → eqb (length rest) 0 ≡ false → tail_in bytes ≡ Err (length rest)
tail_more bytes rest is some = tail_steps bytes (Ok rest) is ∙ cond-false (eqb (length rest) 0) _ _ some

pub tail_wrong : (bytes : List ℕ) (left : ℕ) → misc_in (suc (length bytes)) bytes ≡ Err left → tail_in bytes ≡ Err left
tail_wrong bytes left is = tail_steps bytes (Err left) is

-- ---- a whole text

element_steps : (text : List ℕ) (r : Result Tree ℕ) → document_in (normalized (legal_front text)) ≡ r → element_of text ≡ (with_fault_place (legal_front text) r >>= λ tree. accepted_tree text tree)
unfolding element_of
element_steps text r is = ap (λ r. with_fault_place (legal_front text) r >>= λ tree. accepted_tree text tree) is

canonical_steps : (text : List ℕ) (r : Result Tree ℕ) → element_of text ≡ r → canonical text ≡ (r >>= λ tree. Ok (spelled tree))
unfolding canonical
canonical_steps text r is = ap (λ r. r >>= λ tree. Ok (spelled tree)) is

-- what the front was read as, taken
pub read_as : (text front bytes : List ℕ) (legal : ℕ) (result : Result (List ℕ) XmlFault) → legal ≡ legal_len (chars text) → front ≡ take legal text
    → (tree : Tree) × (document_in (normalized front) ≡ Ok tree) × (bytes ≡ spelled tree) → IsTakenAsElement legal (length text) bytes result → IsCanonicalResult text result
unfolding accepted_tree
read_as text front bytes legal (Ok element) len cut reading taken =
    let tree = reading.0 in
    let at : front ≡ legal_front text = cut ∙ ap (λ n. take n text) len in
    let test : (eqb (legal_len (chars text)) (length text) && is_spelled_text tree) ≡ true =
    ap (λ n. eqb n (length text) && is_spelled_text tree) (sym len) ∙ ap (λ w. eqb legal (length text) && (is_utf8 w && is_xml_text w)) (sym reading.2) ∙ taken.1 in
    canonical_steps text (Ok tree)
    (element_steps text (Ok tree) (ap (λ w. document_in (normalized w)) (sym at) ∙ reading.1) ∙ cond-true (eqb (legal_len (chars text)) (length text) && is_spelled_text tree) _ _ test)
    ∙ ap (λ (w : List ℕ). Ok w) (sym reading.2 ∙ sym taken.0)
read_as text front bytes legal (Err (Refused offset cause)) len cut reading taken =
    let tree = reading.0 in
    let at : front ≡ legal_front text = cut ∙ ap (λ n. take n text) len in
    let test : (eqb (legal_len (chars text)) (length text) && is_spelled_text tree) ≡ false =
    ap (λ n. eqb n (length text) && is_spelled_text tree) (sym len) ∙ ap (λ w. eqb legal (length text) && (is_utf8 w && is_xml_text w)) (sym reading.2) ∙ taken.1 in
    canonical_steps text (Err (legal_len (chars text)))
    (element_steps text (Ok tree) (ap (λ w. document_in (normalized w)) (sym at) ∙ reading.1) ∙ cond-false (eqb (legal_len (chars text)) (length text) && is_spelled_text tree) _ _ test)
    ∙ ap (λ (n : ℕ). Err n) (sym len ∙ sym taken.0)
read_as text front bytes legal (Err fault.NoMemory) len cut reading taken = tt

-- a fault of the front
pub refused_as : (text front new : List ℕ) (legal : ℕ) (f : XmlFault) → legal ≡ legal_len (chars text) → front ≡ take legal text → IsFrontRead front new (Err f) → IsCanonicalResult text (Err f)
refused_as text front new legal (Refused offset cause) len cut wrong =
    let at : front ≡ legal_front text = cut ∙ ap (λ n. take n text) len in
    canonical_steps text (Err (place_of (legal_front text) wrong.0))
    (element_steps text (Err wrong.0) (ap (λ w. document_in (normalized w)) (sym at) ∙ wrong.1))
    ∙ ap (λ w. Err (place_of w wrong.0)) (sym at) ∙ ap (λ (n : ℕ). Err n) (sym wrong.2)
refused_as text front new legal fault.NoMemory len cut wrong = tt

-- a fault by another cause
pub same_place : (text : List ℕ) (f g : XmlFault) → IsAtSamePlace f g → IsCanonicalResult text (Err f) → IsCanonicalResult text (Err g)
same_place text (Refused offset cause) (Refused place other) same is = is ∙ ap (λ (n : ℕ). Err n) (sym same)
same_place text (Refused offset cause) fault.NoMemory same is = absurd same
same_place text fault.NoMemory (Refused place other) same is = absurd same
same_place text fault.NoMemory fault.NoMemory same is = tt

-- ---- the front of a text

no_cr : (text : List ℕ) → list_any (λ b. eqb b 13) text ≡ false → lines false text ≡ text
unfolding lines
no_cr [] none = refl
no_cr (b ∷ text) none =
    let parts = or_parts (eqb b 13) (list_any (λ b. eqb b 13) text) none in
    cond-false (eqb b 13) _ _ parts.0 ∙ ap (λ (w : List ℕ). b ∷ w) (no_cr text parts.1)

pub as_it_is : (text : List ℕ) → list_any (λ b. eqb b 13) text ≡ false → normalized text ≡ text
as_it_is text none = no_cr text none

pub front_read : (text bytes old new : List ℕ) → normalized text ≡ bytes → old ≡ [] → (t : Tree) × (document_in bytes ≡ Ok t) × (new ≡ old ++ spelled t)
    → (t : Tree) × (document_in (normalized text) ≡ Ok t) × (new ≡ spelled t)
front_read text bytes old new same none leaves = (leaves.0, ap document_in same ∙ leaves.1, leaves.2 ∙ ap (λ (w : List ℕ). w ++ spelled leaves.0) none)

pub front_refused : (text bytes new : List ℕ) (s : ParseStop) (f : XmlFault) → normalized text ≡ bytes → Stops (document_in bytes) s → IsFaultOf text (length bytes) s f → IsFrontRead text new (Err f)
unfolding place_of
front_refused text bytes new (At a) (Refused offset cause) same wrong at =
    (a.left, ap document_in same ∙ wrong, at ∙ ap (λ w. origin false text (length w - a.left)) (sym same))
front_refused text bytes new (At a) fault.NoMemory same wrong at = absurd at
front_refused text bytes new stop.NoMemory (Refused offset cause) same wrong at = absurd at
front_refused text bytes new stop.NoMemory fault.NoMemory same wrong at = tt

-- ---- what stands before the root

prolog_steps : (bytes : List ℕ) (r : Passing) → opening_in bytes ≡ r → prolog_in bytes ≡ (r >>= λ rest. misc_in (suc (length rest)) rest >>= λ rest. past (codes "<") rest)
unfolding prolog_in
prolog_steps bytes r is = ap (λ r. r >>= λ rest. misc_in (suc (length rest)) rest >>= λ rest. past (codes "<") rest) is

pub unopened_fails : (bytes : List ℕ) (left : ℕ) → opening_in bytes ≡ Err left → prolog_in bytes ≡ Err left
unopened_fails bytes left is = prolog_steps bytes (Err left) is

pub prolog_misc : (bytes opened : List ℕ) (r : Passing) → opening_in bytes ≡ Ok opened → misc_in (suc (length opened)) opened ≡ r → prolog_in bytes ≡ (r >>= λ rest. past (codes "<") rest)
prolog_misc bytes opened r is misc = prolog_steps bytes (Ok opened) is ∙ ap (λ r. r >>= λ rest. past (codes "<") rest) misc

-- ---- what was written, as a text

pub not_text : (legal len : ℕ) (bytes : List ℕ) → (IsUtf8 bytes → ⊥) → (legal ≡ legal) × ((eqb legal len && (is_utf8 bytes && is_xml_text bytes)) ≡ false)
not_text legal len bytes none =
    let other : is_utf8 bytes ≡ false = false_from_ne_true (is_utf8 bytes) (λ is. none (IsUtf8-from_is_utf8 bytes is)) in
    (refl, and_right (eqb legal len) (is_utf8 bytes && is_xml_text bytes) (and_left (is_utf8 bytes) (is_xml_text bytes) other))

pub is_text : (legal len : ℕ) (bytes shown : List ℕ) → legal ≡ len → shown ≡ bytes → IsUtf8 shown → is_xml_text shown ≡ true → (eqb legal len && (is_utf8 bytes && is_xml_text bytes)) ≡ true
is_text legal len bytes shown whole same utf8 characters =
    and_from (eqb legal len) (is_utf8 bytes && is_xml_text bytes) (eq-eqb legal len whole)
    (and_from (is_utf8 bytes) (is_xml_text bytes) (ap is_utf8 (sym same) ∙ is_utf8-from_IsUtf8 shown utf8) (ap is_xml_text (sym same) ∙ characters))
