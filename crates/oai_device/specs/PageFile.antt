-- A file that is read and written at offsets: which of its bytes a call reads, writes and leaves unchanged. This
-- repository's own.
use Rattle.std.specs.Prelude.{◌≡◌, ◌⊎◌, ◌+◌, ◌<◌, ◌≤◌, ℕ, List, Option, Some, length, slice_index}

-- the byte at each offset, if one was written there
abbrev pub Bytes : Type 0
Bytes = ℕ → Option ℕ

-- the file has these bytes from that offset on
pub record Stand (file : Bytes) (at : ℕ) (bytes : List ℕ) : Type 0 where
  pub each : (i : ℕ) → i < length bytes → file (at + i) ≡ Some (slice_index bytes i)

-- these bytes were read from that offset on: each is the one that was written there, if one was
pub record WereRead (file : Bytes) (at : ℕ) (bytes : List ℕ) : Type 0 where
  pub each : (i byte : ℕ) → i < length bytes → file (at + i) ≡ Some byte → slice_index bytes i ≡ byte

-- only the `count` bytes from that offset on may have changed
pub record KeepsOtherBytes (at count : ℕ) (old new : Bytes) : Type 0 where
  pub each : (place : ℕ) → (place < at) ⊎ (at + count ≤ place) → new place ≡ old place
