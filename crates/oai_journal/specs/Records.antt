-- What a frame of a journal says. This repository's own.
use Rattle.std.specs.Prelude.{ℕ, ℤ, Bool, true, false, ◌&&◌, nat_le, List, length, codes, FitsSigned, IsTrue}
use Rattle.std.specs.Int.{w64}
use Rattle.std.specs.List.{list_all}
use Rattle.oai_journal.specs.declared.records.Kind.{Kind}
use Rattle.oai_journal.specs.declared.records.Kind.TheVariants.{Journal, Oai, Deposit, Tick, Begin, Set, Item, List as OpenList, Gone}
use Rattle.oai_journal.specs.declared.records.LogRecord.{LogRecord}
use Rattle.oai_journal.specs.declared.records.TheConstants.{MAX_BODY, MAX_FIRST_BODY, MAX_NAME}

-- a record: a moment in seconds from 1970 on, a kind, the name of a repository, and bytes
pub record Entry : Type 0 where
  pub moment : ℤ
  pub kind : Kind
  pub name : List ℕ
  pub body : List ℕ

abbrev pub as_entry : LogRecord → Entry
as_entry record' = record { moment = record'.moment; kind = record'.kind; name = record'.name.now; body = record'.body.now }

-- the word of each kind
abbrev pub word_of : Kind → List ℕ
word_of Journal = codes "journal"
word_of Oai = codes "oai"
word_of Deposit = codes "deposit"
word_of Tick = codes "tick"
word_of Begin = codes "begin"
word_of Set = codes "set"
word_of Item = codes "item"
word_of OpenList = codes "list"
word_of Gone = codes "gone"

-- the maximum length of a record of each kind
abbrev pub most_bytes : Kind → ℕ
most_bytes Journal = MAX_FIRST_BODY
most_bytes other = MAX_BODY

abbrev pub is_first_kind : Kind → Bool
is_first_kind Journal = true
is_first_kind other = false

-- a byte of a name: a visible ASCII character
abbrev pub is_visible_ascii : ℕ → Bool
is_visible_ascii b = nat_le 33 b && nat_le b 126

-- a name and a length that a record of the kind may have
unfoldable pub is_within : Kind → List ℕ → ℕ → Bool
is_within kind name size = list_all is_visible_ascii name && nat_le (length name) MAX_NAME && nat_le size (most_bytes kind)

-- a record that a frame can hold
abbrev pub is_fit : Entry → Bool
is_fit e = is_within e.kind e.name (length e.body)

-- such a record, with a moment of 64 bits
pub record IsFit (e : Entry) : Type 0 where
  pub moment : FitsSigned w64 e.moment
  pub fit : IsTrue (is_fit e)
