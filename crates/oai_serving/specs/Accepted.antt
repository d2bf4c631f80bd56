-- Streams that are accepted one after the other, and let go once their connections are over, if they are
-- known. This repository's own.
use Rattle.std.specs.Prelude.{◌≡◌, ℕ, List, [], ◌∷◌, ◌++◌, ⊤, Option, Some, None, Result, Ok, Err}

-- these are appended to the known streams; where none are known, none become known
abbrev pub Accepts : {S : Type 0} → Option (List S) → Option (List S) → List S → Type 0
Accepts None later streams = later ≡ None
Accepts (Some known) None streams = ⊥
Accepts (Some known) (Some later) streams = later ≡ known ++ streams

-- none is known yet
abbrev pub AcceptsNone : {S : Type 0} → Option (List S) → Type 0
AcceptsNone None = ⊤
AcceptsNone (Some known) = known ≡ []

-- the next stream was accepted, or none was
abbrev pub IsAcceptance : {S E : Type 0} → Option (List S) → Result (Option S) E → Option (List S) → Type 0
IsAcceptance known (Ok (Some stream)) later = Accepts known later (stream ∷ [])
IsAcceptance known (Ok None) later = Accepts known later []
IsAcceptance known (Err fault) later = Accepts known later []

-- known streams, each with its number, grow by these
abbrev pub LetsGo : {S : Type 0} → Option (List (ℕ × S)) → Option (List (ℕ × S)) → List (ℕ × S) → Type 0
LetsGo known later streams = Accepts known later streams

-- what is known of sockets: the streams that were accepted, as they were then, and those that were let go, as they were
-- then, each with its number
pub record Known (S : Type 0) : Type 0 where
  pub accepted : Option (List S)
  pub gone : Option (List (ℕ × S))

abbrev pub known_of : {S : Type 0} → Option (List S) → Option (List (ℕ × S)) → Known S
known_of accepted gone = record { accepted = accepted; gone = gone }

-- those streams were accepted in between, and those let go
pub record Passes {S : Type 0} (known later : Known S) (streams : List S) (parted : List (ℕ × S)) : Type 0 where
  pub accepts : Accepts known.accepted later.accepted streams
  pub lets_go : LetsGo known.gone later.gone parted

-- none was accepted or let go yet
pub record PassesNone {S : Type 0} (known : Known S) : Type 0 where
  pub accepted : AcceptsNone known.accepted
  pub gone : AcceptsNone known.gone
