-- A byte that was read is the one that stands there.
use Rattle.std.proofs.Common.{◌≡◌, ◌+◌, ◌<◌, ℕ, zero, suc, List, [], ◌∷◌, Some, take, slice_index, slice_set, ap, arith}
use Rattle.oai_device.specs.PageFile.{Bytes, WereRead}

-- the byte at that offset, put in front of a slice that has room, is what was read there
pub byte_read : (file : Bytes) (at byte : ℕ) (into : List ℕ) → file at ≡ Some byte → WereRead file at (take 1 (slice_set into 0 byte))
byte_read file at byte [] is = record { each = λ i found within. absurd (omega (arith, within)) }
byte_read file at byte (first ∷ rest) is = record { each = one } where
  one : (i found : ℕ) → i < 1 → file (at + i) ≡ Some found → slice_index (byte ∷ []) i ≡ found
  one zero found within stands = let here : at + 0 ≡ at = omega arith in let same : file (at + 0) ≡ file at = ap file here in cc (is, stands, same)
  one (suc i) found within stands = absurd (omega (arith, within))
