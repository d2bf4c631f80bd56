-- Connections, and what the calls on them do. This repository's own; `Messages` defines what the messages are.
use Rattle.std.specs.Prelude.{◌≡◌, ℕ, ℤ, ◌⊎◌, if◌then◌else◌, List, [], ◌++◌, Result, Ok, Err}
use Rattle.oai_front.specs.Messages.{End, HasWhole, IsUnfinished, closes, faults, waits}
use Rattle.oai_front.specs.Performing.{Completes, Performs, Steps}
use Rattle.oai_front.specs.Stages.{is_closing, stage_ended}
use Rattle.oai_front.specs.declared.stages.Stage.{Stage}
use Rattle.oai_front.specs.declared.stages.Stage.TheVariants.{Reading, Closed}
use Rattle.oai_front.specs.declared.faults.PieceFault.{PieceFault}
use Rattle.oai_front.specs.declared.faults.PieceFault.TheVariants.{NoSuchConnection, NoMemory, Unfinished}

-- a connection: its number, the bytes received that belong to no message that was performed, the bytes that were
-- answered and not taken, and whether it still reads
pub record Connection : Type 0 where
  pub number : ℕ
  pub rest : List ℕ
  pub output : List ℕ
  pub stage : Stage

-- one that was just opened
abbrev pub fresh : ℕ → Connection
fresh number = record { number = number; rest = []; output = []; stage = Reading }

-- the bytes are a prefix of these, empty only if these are
pub record IsFrontOf (bytes all : List ℕ) : Type 0 where
  pub later : List ℕ
  pub front : all ≡ bytes ++ later
  pub some : bytes ≡ [] → all ≡ []

-- ---- a piece

-- the bytes that wait, followed by the piece, which is dropped if the connection is closing
abbrev pub bytes_with : Connection → List ℕ → List ℕ
bytes_with c piece = if is_closing c.stage then c.rest else c.rest ++ piece

-- what is left of a connection whose messages came to that end
abbrev pub rest_at : End → List ℕ
rest_at (waits rest) = rest
rest_at closes = []
rest_at (faults status) = []

abbrev pub stage_at : Stage → End → Stage
stage_at stage (waits rest) = stage
stage_at stage closes = Closed
stage_at stage (faults status) = Closed

abbrev pub connection_at : Connection → End → List ℕ → Connection
connection_at c end written = record c { rest = rest_at end; output = c.output ++ written; stage = stage_at c.stage end }

-- the effect on the bytes of a connection, and on the handler, of performing its messages: all that are complete, or
-- the first of them, and something complete is left
abbrev pub IsGoneOver : {H : Type 0} → Steps H → ℤ → Connection → H → Result Unit PieceFault → Connection → H → Type 0
IsGoneOver step moment c old (Ok done) d new =
    (end : End) × (written : List ℕ) × Completes step moment old new c.rest end written × (d ≡ connection_at c end written)
IsGoneOver step moment c old (Err Unfinished) d new =
    (rest : List ℕ) × (written : List ℕ) × Performs step moment old new c.rest rest written × HasWhole rest
    × (d ≡ record c { rest = rest; output = c.output ++ written })
IsGoneOver step moment c old (Err NoMemory) d new = ⊥
IsGoneOver step moment c old (Err NoSuchConnection) d new = ⊥

-- what a piece does to a connection and to the handler. All complete messages are performed at that moment, and their
-- answers appended to the output; or the piece was not taken; or it was taken, and only the first messages were
-- performed
abbrev pub IsTakenIn : {H : Type 0} → Steps H → ℤ → List ℕ → Connection → H → Result Unit PieceFault → Connection → H → Type 0
IsTakenIn step moment piece c old (Err NoMemory) d new = (d ≡ c) × (new ≡ old)
IsTakenIn step moment piece c old result d new = IsGoneOver step moment (record c { rest = bytes_with c piece }) old result d new

-- ---- the end

-- what the end of a connection does to it: an incomplete message is dropped, and messages that wait stay
pub record IsEnded (c d : Connection) : Type 0 where
  pub rest : (IsUnfinished c.rest × (d.rest ≡ [])) ⊎ (HasWhole c.rest × (d.rest ≡ c.rest))
  pub others : d ≡ record c { rest = d.rest; stage = stage_ended c.stage }
