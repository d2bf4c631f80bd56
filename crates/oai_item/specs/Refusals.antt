-- Why a deposit line is refused, and the line that says so: this repository's own.
use Rattle.std.specs.Prelude.{ℕ, List, ◌++◌, codes, Option, Some, None}
use Rattle.std.specs.Fmt.{decimal}
use Rattle.oai_item.specs.declared.refusals.LineRefusal.{LineRefusal}
use Rattle.oai_item.specs.declared.refusals.LineRefusal.TheVariants.{BadJson, BadCommand, BadXml, BadIdentifier, BadSetSpec, BadText}
use Rattle.oai_item.specs.declared.refusals.ChangeRefusal.{ChangeRefusal}
use Rattle.oai_item.specs.declared.refusals.ChangeRefusal.TheVariants.{UnknownSet, UnknownFormat, NoDc, UnknownField, NotOfFormat, DropsFormat, TooLarge, TooManyItems, NoSuchItem, AlreadyDeleted, NotTransient, BadDate, SetExists, NoParent, TooManySets}

-- a cause lies in the line itself, or in what the repository holds
pub data Cause : Type 0 where
  in_line : LineRefusal → Cause
  in_repository : ChangeRefusal → Cause

-- the byte of its text that a refusal names, from 0 on
abbrev pub byte_of : Cause → Option ℕ
byte_of (in_line BadJson) = None
byte_of (in_line BadCommand) = None
byte_of (in_line (BadXml at)) = Some at
byte_of (in_line BadIdentifier) = None
byte_of (in_line BadSetSpec) = None
byte_of (in_line BadText) = None
byte_of (in_repository cause) = None

-- the number of the cause, and its name
abbrev pub cause_text : Cause → List ℕ
cause_text (in_line BadJson) = codes "refused 1 bad-json"
cause_text (in_line BadCommand) = codes "refused 2 bad-command"
cause_text (in_line (BadXml at)) = codes "refused 20 bad-xml "
cause_text (in_line BadIdentifier) = codes "refused 3 bad-identifier"
cause_text (in_line BadSetSpec) = codes "refused 4 bad-set-spec"
cause_text (in_line BadText) = codes "refused 5 bad-text"
cause_text (in_repository UnknownSet) = codes "refused 6 unknown-set"
cause_text (in_repository UnknownFormat) = codes "refused 7 unknown-format"
cause_text (in_repository NoDc) = codes "refused 8 no-dc"
cause_text (in_repository UnknownField) = codes "refused 9 unknown-field"
cause_text (in_repository NotOfFormat) = codes "refused 21 not-of-format"
cause_text (in_repository DropsFormat) = codes "refused 10 drops-format"
cause_text (in_repository TooLarge) = codes "refused 11 too-large"
cause_text (in_repository TooManyItems) = codes "refused 12 too-many-items"
cause_text (in_repository NoSuchItem) = codes "refused 13 no-such-item"
cause_text (in_repository AlreadyDeleted) = codes "refused 14 already-deleted"
cause_text (in_repository NotTransient) = codes "refused 15 not-transient"
cause_text (in_repository BadDate) = codes "refused 16 bad-date"
cause_text (in_repository SetExists) = codes "refused 17 set-exists"
cause_text (in_repository NoParent) = codes "refused 18 no-parent"
cause_text (in_repository TooManySets) = codes "refused 19 too-many-sets"

-- a text, and the number behind it, if there is one
abbrev pub with_number : List ℕ → Option ℕ → List ℕ
with_number text None = text
with_number text (Some n) = text ++ decimal n

-- the line that reports a refusal
abbrev pub refusal_line : Cause → List ℕ
refusal_line cause = with_number (cause_text cause) (byte_of cause)
