-- The head of a frame, up to its digest: `<moment> <kind> <name> <length> `. This repository's own.
use Rattle.std.specs.Prelude.{◌≡◌, ℕ, ℤ, Bool, true, List, ◌++◌, length, codes, decimal, Option, Some, None, if◌then◌else◌, FitsSigned, ◌<◌, ◌≤◌, ◌^◌}
use Rattle.std.specs.Fmt.{signed_decimal}
use Rattle.std.specs.Int.{w64}
use Rattle.std.specs.List.{list_all}
use Rattle.std.specs.Str.{bytes_eq}
use Rattle.oai_bytes.specs.Numbers.{moment_of, number_in}
use Rattle.oai_bytes.specs.Parts.{part, rest}
use Rattle.oai_journal.specs.Records.{word_of, is_visible_ascii}
use Rattle.oai_journal.specs.declared.heads.RecordHead.{RecordHead}
use Rattle.oai_journal.specs.declared.records.Kind.{Kind}
use Rattle.oai_journal.specs.declared.records.Kind.TheVariants.{Journal, Oai, Deposit, Tick, Begin, Set, Item, List as OpenList, Gone}
use Rattle.oai_journal.specs.declared.records.TheConstants.{MAX_NAME}

-- bytes as they are; named so that the search does not spell them out
unfoldable pub plain : List ℕ → List ℕ
plain bytes = bytes

-- what a head says
pub record RecordHeadFields : Type 0 where
  pub moment : ℤ
  pub kind : Kind
  pub name : List ℕ
  pub size : ℕ

abbrev pub fields_of_head : RecordHead → RecordHeadFields
fields_of_head h = record { moment = h.moment; kind = h.kind; name = h.name.now; size = h.size }

-- a head: its four fields, each followed by a space
unfoldable pub head_front : RecordHeadFields → List ℕ
head_front h =
    signed_decimal h.moment ++ plain (codes " ") ++ plain (word_of h.kind) ++ plain (codes " ") ++ h.name ++ plain (codes " ")
    ++ decimal h.size ++ plain (codes " ")

-- fields that a head can encode
pub record CanBeSpelled (h : RecordHeadFields) : Type 0 where
  pub moment : FitsSigned w64 h.moment
  pub name : list_all is_visible_ascii h.name ≡ true
  pub short : length h.name ≤ MAX_NAME
  pub size : h.size < 2 ^ 64

-- ---- how it is read

-- the kind with that word
unfoldable pub kind_in : List ℕ → Option Kind
kind_in word =
    if bytes_eq word (codes "oai") then Some Oai else
    (if bytes_eq word (codes "deposit") then Some Deposit else
    (if bytes_eq word (codes "tick") then Some Tick else
    (if bytes_eq word (codes "journal") then Some Journal else
    (if bytes_eq word (codes "begin") then Some Begin else
    (if bytes_eq word (codes "set") then Some Set else
    (if bytes_eq word (codes "item") then Some Item else
    (if bytes_eq word (codes "list") then Some OpenList else
    (if bytes_eq word (codes "gone") then Some Gone else None))))))))

infixl 10 ◌>>=◌
abbrev pub ◌>>=◌ : {A B : Type 0} → Option A → (A → Option B) → Option B
(Some x) >>= f = f x
None >>= f = None

-- the value, if it passes the test
abbrev pub tested : {A : Type 0} → (A → Bool) → A → Option A
tested passes x = if passes x then Some x else None

-- the fields with which bytes begin; whether the bytes are their encoding is not tested
unfoldable pub head_in : List ℕ → Option RecordHeadFields
head_in bytes = do
  moment ← moment_of (part bytes)
  kind ← kind_in (part (rest bytes))
  size ← number_in (part (rest (rest (rest bytes))))
  Some (record { moment = moment; kind = kind; name = part (rest (rest bytes)); size = size })
