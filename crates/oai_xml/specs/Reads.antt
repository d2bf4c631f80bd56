-- What reading an element answers.
use Rattle.std.specs.Prelude.{◌≡◌, ◌-◌, ℕ, true, false, ◌==◌, ◌&&◌, List, None, Some, Result, Ok, Err}
use Rattle.std.specs.Str.{is_utf8}
use Rattle.oai_names.specs.Characters.{is_xml_text}
use Rattle.oai_names.specs.Optional.{each_of}
use Rattle.oai_xml.specs.Trees.{Tree, spelled}
use Rattle.oai_xml.specs.Documents.{document_in, normalized, origin, place_of, canonical, canonical_in}
use Rattle.oai_xml.specs.declared.faults.ParseStop.{ParseStop}
use Rattle.oai_xml.specs.declared.faults.ParseStop.TheVariants.{At}
use Rattle.oai_xml.specs.declared.faults.ParseStop.TheVariants as stop
use Rattle.oai_xml.specs.declared.faults.XmlFault.{XmlFault}
use Rattle.oai_xml.specs.declared.faults.XmlFault.TheVariants.{Refused, NoMemory}

-- the canonical text of a text, or the place of its first fault. Of the cause nothing is said
abbrev pub IsCanonicalResult : List ℕ → Result (List ℕ) XmlFault → Type 0
IsCanonicalResult text (Ok element) = canonical text ≡ Ok element
IsCanonicalResult text (Err (Refused offset cause)) = canonical text ≡ Err offset
IsCanonicalResult text (Err NoMemory) = Unit {0}

-- the canonical texts of texts, in order; or one of them is no element; or out of memory
abbrev pub AreElementsRead : List (List ℕ) → Result (List (List ℕ)) XmlFault → Type 0
AreElementsRead texts (Ok elements) = each_of canonical_in texts ≡ Some elements
AreElementsRead texts (Err (Refused offset cause)) = each_of canonical_in texts ≡ None
AreElementsRead texts (Err NoMemory) = Unit {0}

-- ---- words of the code's own

-- the document of a text whose characters are all XML's
abbrev pub IsFrontRead : List ℕ → List ℕ → Result (Unit {0}) XmlFault → Type 0
IsFrontRead text new (Ok done) = (tree : Tree) × (document_in (normalized text) ≡ Ok tree) × (new ≡ spelled tree)
IsFrontRead text new (Err (Refused offset cause)) = (left : ℕ) × (document_in (normalized text) ≡ Err left) × (offset ≡ place_of text left)
IsFrontRead text new (Err NoMemory) = Unit {0}

-- the bytes, taken as an element
abbrev pub IsTakenAsElement : ℕ → ℕ → List ℕ → Result (List ℕ) XmlFault → Type 0
IsTakenAsElement legal len bytes (Ok element) = (element ≡ bytes) × ((legal == len) && (is_utf8 bytes && is_xml_text bytes) ≡ true)
IsTakenAsElement legal len bytes (Err (Refused offset cause)) = (offset ≡ legal) × ((legal == len) && (is_utf8 bytes && is_xml_text bytes) ≡ false)
IsTakenAsElement legal len bytes (Err NoMemory) = Unit {0}

-- a fault, perhaps by another cause
abbrev pub IsAtSamePlace : XmlFault → XmlFault → Type 0
IsAtSamePlace (Refused offset cause) (Refused place other) = place ≡ offset
IsAtSamePlace (Refused offset cause) NoMemory = ⊥
IsAtSamePlace NoMemory (Refused place other) = ⊥
IsAtSamePlace NoMemory NoMemory = Unit {0}

-- a fault, by its place in the text itself: where that many bytes are so normalized
abbrev pub IsFaultOf : List ℕ → ℕ → ParseStop → XmlFault → Type 0
IsFaultOf text len (At fault) (Refused offset cause) = offset ≡ origin false text (len - fault.left)
IsFaultOf text len (At fault) NoMemory = ⊥
IsFaultOf text len stop.NoMemory (Refused offset cause) = ⊥
IsFaultOf text len stop.NoMemory NoMemory = Unit {0}
