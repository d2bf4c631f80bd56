-- Frames: how a journal encodes its records. This repository's own.
use Rattle.std.specs.Prelude.{◌≡◌, ℕ, ◌+◌, ◌-◌, nat_lt, true, List, [], ◌∷◌, ◌++◌, length, take, drop, Option, Some, None, if◌then◌else◌, FitsSigned}
use Rattle.std.specs.Int.{w64, to_be_bytes}
use Rattle.hex.specs.Hex.{encode_lower}
use Rattle.sqlite_disk.specs.Digest.{digest}
use Rattle.oai_journal.specs.Records.{Entry, is_within}
use Rattle.oai_journal.specs.Heads.{RecordHeadFields, head_front, plain, head_in, ◌>>=◌, tested}
use Rattle.oai_journal.specs.declared.records.Kind.{Kind}

abbrev pub head_of : Entry → RecordHeadFields
head_of e = record { moment = e.moment; kind = e.kind; name = e.name; size = length e.body }

-- the digest of a frame: over the digest before it, its head and its bytes
unfoldable pub next_digest : ℕ → Entry → ℕ
next_digest before e = digest before (head_front (head_of e) ++ e.body)

-- a digest as 16 hexadecimal digits
unfoldable pub digest_text : ℕ → List ℕ
digest_text d = encode_lower (to_be_bytes w64 d)

-- a line end
abbrev pub plain_line_end : List ℕ
plain_line_end = plain (10 ∷ [])

-- what precedes the bytes of a record: its head with the digest, and a line end
unfoldable pub frame_front : ℕ → Entry → List ℕ
frame_front before e = head_front (head_of e) ++ digest_text (next_digest before e) ++ plain_line_end

-- a frame, without its commit byte: that, the bytes of the record, and a line end
unfoldable pub frame : ℕ → Entry → List ℕ
frame before e = frame_front before e ++ (e.body ++ plain_line_end)

-- one with a head of that text, and these bytes
abbrev pub framed : ℕ → List ℕ → List ℕ → List ℕ
framed before head body = (head ++ digest_text (digest before (head ++ body)) ++ plain_line_end) ++ (body ++ plain_line_end)

-- ---- how one is read

-- a head that a frame may have, of that kind, for that many bytes, and with that text
pub record IsFrameHead (h : RecordHeadFields) (its : Kind) (bytes : ℕ) (written : List ℕ) : Type 0 where
  pub moment : FitsSigned w64 h.moment
  pub within : is_within h.kind h.name h.size ≡ true
  pub kind : its ≡ h.kind
  pub size : bytes ≡ h.size
  pub text : written ≡ head_front h

-- that many bytes before the last one
unfoldable pub body_in : ℕ → List ℕ → Option (List ℕ)
body_in size bytes = if nat_lt size (length bytes) then Some (take size (drop (length bytes - size - 1) bytes)) else None

-- the length of the frame that begins so
unfoldable pub len_in : List ℕ → Option ℕ
len_in bytes = do
  h ← head_in bytes
  h ← tested (λ h. is_within h.kind h.name h.size) h
  Some (length (head_front h) + 16 + h.size + 2)

-- the record in the bytes of a frame; whether the bytes encode it is not tested
unfoldable pub entry_in : List ℕ → Option Entry
entry_in bytes = do
  h ← head_in bytes
  body ← body_in h.size bytes
  Some (record { moment = h.moment; kind = h.kind; name = h.name; body = body })
