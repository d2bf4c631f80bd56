-- Messages that came to a host in all lives of its server, and what was done of each. This repository's own.
use Rattle.std.specs.Prelude.{◌≡◌, ◌⊎◌, false, IsTrue, List, [], ◌∷◌, ◌++◌}
use Rattle.std.specs.List.{flat_map}
use Rattle.oai_http.specs.Exchanges.{call_at}
use Rattle.oai_http.specs.declared.exchanges.Answer.{Answer}
use Rattle.oai_http.specs.declared.exchanges.Call.{Call}
use Rattle.oai_journal.specs.Records.{Entry}
use Rattle.oai_host.specs.Hosts.{HostState, IsExchanged, Repository}
use Rattle.oai_host.specs.Performed.{StoreState}
use Rattle.oai_keys.specs.Guards.{barred}
use Rattle.oai_keys.specs.Keys.{is_admitted}
use Rattle.oai_keys.specs.declared.rings.Ring.{Ring}
use Rattle.oai_daemon.specs.Watches.{IsStatusAnswer, is_status}
use Rattle.oai_durable.specs.Journaled.{unperformed_answer}
use Rattle.oai_durable.specs.Lives.{Exchanged}
use Rattle.oai_durable.specs.Records.{redone_all}
use Rattle.oai_service.specs.Hosting.{leaving}

-- a message with its answer and its own record: it was performed; it was refused before, since it was not admitted, or
-- no space could be reserved for its record; or it asked for the figures of the server
pub data Turn : Type 0 where
  was_performed : Exchanged → Turn
  was_refused : Exchanged → Turn
  was_status : Exchanged → Turn

abbrev pub its : Turn → Exchanged
its (was_performed e) = e
its (was_refused e) = e
its (was_status e) = e

-- the records of turns, in order
abbrev pub turn_records : List Turn → List Entry
turn_records turns = flat_map (λ (turn : Turn). (its turn).own) turns

-- what was performed, as calls of the host
abbrev pub calls_in : List Turn → List Call
calls_in [] = []
calls_in (was_performed e ∷ turns) = call_at e.moment e.asked ∷ calls_in turns
calls_in (was_refused e ∷ turns) = calls_in turns
calls_in (was_status e ∷ turns) = calls_in turns

-- and the answers to these
abbrev pub answers_in : List Turn → List Answer
answers_in [] = []
answers_in (was_performed e ∷ turns) = e.answer ∷ answers_in turns
answers_in (was_refused e ∷ turns) = answers_in turns
answers_in (was_status e ∷ turns) = answers_in turns

-- a host of these repositories, over a store in that state
abbrev pub host_in : List Repository → StoreState → HostState
host_in repositories store = record { repositories = repositories; honest = store.honest; failures = store.failures; room = store.room; unsaved = [] }

-- what was done of it: a host exchanged the message; or it was refused, or asked for figures, and nothing was done
abbrev pub IsTurn : List Repository → StoreState → Turn → List Repository → StoreState → Type 0
IsTurn before old (was_performed e) after new = IsExchanged (call_at e.moment e.asked) e.answer (host_in before old) (host_in after new)
IsTurn before old (was_refused e) after new =
    (after ≡ before) × (new ≡ old) × ((e.answer ≡ unperformed_answer e.asked.target) ⊎ (e.answer ≡ barred))
IsTurn before old (was_status e) after new = (after ≡ before) × (new ≡ old) × IsStatusAnswer e.asked.method e.answer

-- under those keys: a message that was performed is admitted, and so is one for whose record there was no space; one
-- that is not was answered 401, and has no record: RFC 9110, section 15.5.2
abbrev pub IsKeyed : List Ring → Turn → Type 0
IsKeyed rings (was_performed e) = IsTrue (is_admitted rings e.asked)
IsKeyed rings (was_refused e) =
    (IsTrue (is_admitted rings e.asked) × (e.answer ≡ unperformed_answer e.asked.target))
    ⊎ ((is_admitted rings e.asked ≡ false) × (e.answer ≡ barred) × (e.own ≡ []))
IsKeyed rings (was_status e) = IsTrue (is_status e.asked.target)

-- a message asks for the figures of the server if its target is theirs: it was answered with them, or why not, whatever
-- the keys are, and has no record. Any other does not
abbrev pub IsWatched : Turn → Type 0
IsWatched (was_performed e) = is_status e.asked.target ≡ false
IsWatched (was_refused e) = is_status e.asked.target ≡ false
IsWatched (was_status e) = IsTrue (is_status e.asked.target) × IsStatusAnswer e.asked.method e.answer × (e.own ≡ [])

-- turns over one store, which between them changes at most so, from one of its states to another, the first after these
-- records, and each other one after those of the one before it: each begins in the state that the replay of the records
-- before it leaves, and ends in the one that these and its own leave
abbrev pub AreTurns : (StoreState → StoreState → Type 0) → List Repository → List Entry → StoreState → List Turn → StoreState → Type 0
AreTurns changes begun before old [] new = changes old new
AreTurns changes begun before old (turn ∷ turns) new =
    (started : StoreState)
    × changes old started
    × (between : StoreState)
    × IsTurn (redone_all leaving begun before) started turn (redone_all leaving begun (before ++ (its turn).own)) between
    × AreTurns changes begun (before ++ (its turn).own) between turns new
