-- The connections that are open, and what the calls of a front do. This repository's own.
use Rattle.std.specs.Prelude.{◌≡◌, ℕ, ℤ, ◌+◌, ◌<◌, ◌≤◌, Bool, true, not, ◌==◌, nat_le, if◌then◌else◌, List, [], ◌∷◌, ◌++◌, length, drop, map, filter, find, Option, Some, None, IsSome, MatchOption, Result, Ok, Err}
use Rattle.std.specs.List.{list_all}
use Rattle.oai_names.specs.Numbered.{numbers_rise}
use Rattle.oai_front.specs.Connections.{Connection, IsEnded, IsFrontOf, IsTakenIn, fresh}
use Rattle.oai_front.specs.Performing.{Steps}
use Rattle.oai_http.specs.declared.handlers.SettleFault.{SettleFault}
use Rattle.oai_front.specs.declared.faults.OpenFault.{OpenFault}
use Rattle.oai_front.specs.declared.faults.OpenFault.TheVariants as refusal
use Rattle.oai_front.specs.declared.faults.NoSuchConnection.{NoSuchConnection as Absent}
use Rattle.oai_front.specs.declared.faults.PieceFault.{PieceFault}
use Rattle.oai_front.specs.declared.faults.PieceFault.TheVariants.{NoSuchConnection, NoMemory}
use Rattle.oai_front.specs.declared.numbers.ConnId.{ConnId}
use Rattle.oai_front.specs.declared.numbers.TheConstants.{LAST_NUMBER}

-- the handler, how many connections may be open, the number that was given last, and the open connections
pub record State (H : Type 0) : Type 0 where
  pub handler : H
  pub limit : ℕ
  pub last : ℕ
  pub connections : List Connection

-- before the first connection
abbrev pub nothing_open : {H : Type 0} → H → ℕ → State H
nothing_open handler limit = record { handler = handler; limit = limit; last = 0; connections = [] }

-- the connection has that number
abbrev pub is_numbered : ℕ → Connection → Bool
is_numbered number c = c.number == number

-- the open connection with that number
unfoldable pub connection_numbered : ℕ → List Connection → Option Connection
connection_numbered number connections = find (is_numbered number) connections

-- the connections, this one in place of the one with its number
abbrev pub replaced : Connection → Connection → Connection
replaced d c = if is_numbered d.number c then d else c

unfoldable pub with_connection : Connection → List Connection → List Connection
with_connection d connections = map (replaced d) connections

-- the connections without that of the number
unfoldable pub without_connection : ℕ → List Connection → List Connection
without_connection number connections = filter (λ c. not (is_numbered number c)) connections

-- ---- the invariant of a front

-- the number of a connection
abbrev pub connection_number : Connection → ℕ
connection_number c = c.number

-- the numbers rise strictly
abbrev pub are_numbered : List Connection → Bool
are_numbered connections = numbers_rise connection_number connections

-- numbers are distinct, and none is above the one that was given last
pub record IsTable (connections : List Connection) (last : ℕ) : Type 0 where
  pub numbered : are_numbered connections ≡ true
  pub given : list_all (λ c. nat_le c.number last) connections ≡ true
  pub below : last < LAST_NUMBER

-- ---- the calls

-- opening: the connection gets the number after the one that was given last, and has received nothing; or the first
-- cause that applies is returned, with out of memory before the last
abbrev pub IsOpening : {H : Type 0} → State H → Result ConnId OpenFault → State H → Type 0
IsOpening old (Ok conn) new =
    (length old.connections < old.limit) × (conn.number ≡ old.last + 1) × (conn.number < LAST_NUMBER)
    × (new ≡ record old { last = old.last + 1; connections = old.connections ++ fresh (old.last + 1) ∷ [] })
IsOpening old (Err refusal.Full) new = (old.limit ≤ length old.connections) × (new ≡ old)
IsOpening old (Err refusal.NoMemory) new = (length old.connections < old.limit) × (new ≡ old)
IsOpening old (Err refusal.NumbersSpent) new = (length old.connections < old.limit) × (old.last + 1 ≡ LAST_NUMBER) × (new ≡ old)

-- a change of the connection with that number, of no other, and of the handler
pub record IsChange {H : Type 0} (number : ℕ) (old new : State H) (change : Connection → Connection → Type 0) : Type 0 where
  pub before : Connection
  pub after : Connection
  pub stands : connection_numbered number old.connections ≡ Some before
  pub changed : change before after
  pub others : new ≡ record old { handler = new.handler; connections = with_connection after old.connections }

-- a piece: the connection takes it in; the handler performs its messages; no other connection changes
abbrev pub IsPiece : {H : Type 0} → Steps H → ℕ → ℤ → List ℕ → State H → Result Unit PieceFault → State H → Type 0
IsPiece step number moment piece old (Err NoSuchConnection) new = (connection_numbered number old.connections ≡ None) × (new ≡ old)
IsPiece step number moment piece old (Err NoMemory) new = IsSome (connection_numbered number old.connections) × (new ≡ old)
IsPiece step number moment piece old result new =
    IsChange number old new (λ c d. IsTakenIn step moment piece c old.handler result d new.handler)

-- no more bytes come on the connection
abbrev pub IsEnding : {H : Type 0} → ℕ → State H → Result Unit Absent → State H → Type 0
IsEnding number old (Ok done) new = IsChange number old new IsEnded × (new.handler ≡ old.handler)
IsEnding number old (Err absent) new = (connection_numbered number old.connections ≡ None) × (new ≡ old)

-- the connection is dropped
abbrev pub IsForgetting : {H : Type 0} → ℕ → State H → Result Unit Absent → State H → Type 0
IsForgetting number old (Ok done) new =
    IsSome (connection_numbered number old.connections) × (new ≡ record old { connections = without_connection number old.connections })
IsForgetting number old (Err absent) new = (connection_numbered number old.connections ≡ None) × (new ≡ old)

-- what to write next on the connection
abbrev pub IsOutput : ℕ → List Connection → Option (List ℕ) → Type 0
IsOutput number connections None = connection_numbered number connections ≡ None
IsOutput number connections (Some bytes) =
    (c : Connection) × (connection_numbered number connections ≡ Some c) × IsFrontOf bytes c.output

-- the handler settles, and no connection changes
abbrev pub IsSettling : {H : Type 0} → (H → Result Unit SettleFault → H → Type 0) → State H → Result Unit SettleFault → State H → Type 0
IsSettling settled old result new = settled old.handler result new.handler × (new ≡ record old { handler = new.handler })

-- that many bytes are to be written on the connection
abbrev pub HasOutput : ℕ → ℕ → List Connection → Type 0
HasOutput number count connections = MatchOption (connection_numbered number connections) ⊥ (λ c. count ≤ length c.output)

-- that many of them are taken
abbrev pub IsTaking : ℕ → Connection → Connection → Type 0
IsTaking count c d = d ≡ record c { output = drop count c.output }
