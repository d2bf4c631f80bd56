-- The effect of an input of lines: its exchanges, and what is written for them. This repository's own.
use Rattle.std.specs.Prelude.{◌≡◌, ℕ, true, List, map, filter, Some, Result, Ok, Err, ◌+◌, [], ◌∷◌, ◌++◌, length}
use Rattle.std.specs.List.{flat_map}
use Rattle.oai_host.specs.Hosts.{AreAnswered, AreExchanged, HostState}
use Rattle.oai_http.specs.declared.exchanges.Answer.{Answer}
use Rattle.oai_http.specs.declared.exchanges.Call.{Call}
use Rattle.oai_cli.specs.ExchangeLines.{IsUnspecified, is_bad, is_line_filled, shown, parse_exchange}
use Rattle.oai_cli.specs.NumberedLines.{AreFirst, IsAt, line_count}
use Rattle.oai_startup.specs.declared.stop.Stop.{Stop}
use Rattle.oai_startup.specs.declared.stop.Stop.TheVariants.{BadExchange, OutputFault}

-- the lines are exchanges with the host; these were answered, each of them as it is over every store, and the answers
-- were written
pub record AreDone (lines : List (List ℕ)) (old new : HostState) (Writes : List ℕ → Type 0) : Type 0 where
  pub calls : List Call
  pub answers : List Answer
  pub read : map parse_exchange (filter is_line_filled lines) ≡ map Some calls
  pub answered : AreAnswered calls answers old new
  pub exchanged : AreExchanged calls answers old new
  pub written : Writes (flat_map shown answers)

-- the effect of the lines: all were done, or all before the first bad one, or the first of them, also if the output
-- failed, and then what was written is not specified
abbrev pub AreAsked : List (List ℕ) → HostState → Result Unit Stop → HostState → (List ℕ → Type 0) → Type 0
AreAsked lines old (Ok done) new Writes = AreDone lines old new Writes
AreAsked lines old (Err (BadExchange number)) new Writes =
    IsAt number lines (λ front line. (is_bad line ≡ true) × AreDone front old new Writes)
AreAsked lines old (Err OutputFault) new Writes = AreFirst lines (λ front. AreDone front old new IsUnspecified)
AreAsked lines old (Err stop) new Writes = AreFirst lines (λ front. AreDone front old new Writes)

-- ---- while the lines are performed

-- the lines were done, and that many were counted
pub record AreDoneAndCounted (old new : HostState) (count : ℕ) (Writes : List ℕ → Type 0) (lines : List (List ℕ)) : Type 0 where
  pub honest : new.honest ≡ old.honest
  pub counted : count ≡ line_count (length lines)
  pub done : AreDone lines old new Writes

-- the effect of one line more
abbrev pub IsLineOutcome : List (List ℕ) → List ℕ → HostState → Result Unit Stop → HostState → ℕ → (List ℕ → Type 0) → Type 0
IsLineOutcome front line old (Ok done) new count Writes = AreDoneAndCounted old new count Writes (front ++ line ∷ [])
IsLineOutcome front line old (Err (BadExchange number)) new count Writes =
    (is_bad line ≡ true) × (number ≡ line_count (length front + 1)) × AreDone front old new Writes
IsLineOutcome front line old (Err stop) new count Writes = (stop ≡ OutputFault) × AreDone (front ++ line ∷ []) old new IsUnspecified
