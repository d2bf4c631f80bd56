-- Parts of a handler's state, as plain data: this repository's own.
use Rattle.std.specs.Prelude.{ℕ, ℤ, List, [], ◌∷◌, ◌++◌}
use Rattle.oai_replay.specs.declared.parts.Part.{Part}
use Rattle.oai_replay.specs.declared.parts.PartKind.{PartKind}

-- a part: its kind, a moment in seconds from 1970 on, the name of a repository, and bytes
pub record PartState : Type 0 where
  pub kind : PartKind
  pub moment : ℤ
  pub name : List ℕ
  pub bytes : List ℕ

abbrev pub as_part : Part → PartState
as_part part = record { kind = part.kind; moment = part.moment; name = part.name.now; bytes = part.bytes.now }

-- the state after parts were restored one after the other
abbrev pub restored_all : {K : Type 0} → (K → PartState → K) → K → List PartState → K
restored_all restored kept [] = kept
restored_all restored kept (part ∷ parts) = restored_all restored (restored kept part) parts

-- a sink took some more parts, whatever it had taken; and what says of which state which parts are saved, says it of these
-- behind the others
pub record SavesMore {S K : Type 0} (has : S → List PartState → Type 0) (old : K → List PartState → Type 0) (before : S) (new : K → List PartState → Type 0) (after : S) : Type 0 where
  pub some : List PartState
  pub taken : (parts : List PartState) → has before parts → has after (parts ++ some)
  pub saved : (state : K) (parts : List PartState) → old state parts → new state (parts ++ some)
