-- What an exchange does to its repository, over every store, also one that does not return what was written to it; and
-- that over one that does, it does what the machine does. This repository's own.
use Rattle.std.specs.Prelude.{◌≡◌, ◌⊎◌, ◌<◌, ℕ, ℤ, Bool, IsTrue, List, [], ◌∷◌, ◌++◌, codes, length, take, None, Some, Result, Ok, Err}
use Rattle.oai_time.specs.Clock.{tick}
use Rattle.oai_time.specs.TimeTexts.{datestamp_text}
use Rattle.oai_item.specs.Refusals.{Cause, in_line, in_repository, refusal_line}
use Rattle.oai_deposit.specs.declared.changes.Change.{Change}
use Rattle.oai_deposit.specs.declared.changes.Change.TheVariants as change
use Rattle.oai_item.specs.declared.faults.Fault.{Fault}
use Rattle.oai_item.specs.declared.refusals.ChangeRefusal.{ChangeRefusal}
use Rattle.oai_item.specs.declared.refusals.LineRefusal.{LineRefusal}
use Rattle.oai_catalogue.specs.Store.{IsHonest, NeedsRoom}
use Rattle.oai_device.specs.Device.{CountsFailures}
use Rattle.oai_item.specs.declared.faults.Fault.TheVariants.{Device}
use Rattle.oai_deposit.specs.Lines.{line_of}
use Rattle.oai_settings.specs.Config.{RepositoryConfig}
use Rattle.oai_holdings.specs.Accepted.{sets_with}
use Rattle.oai_holdings.specs.Changes.{stamp_at}
use Rattle.oai_repo.specs.State.{RepoState, moved}
use Rattle.oai_http.specs.Answers.{answered, answered_with, failed}
use Rattle.oai_http.specs.declared.exchanges.Answer.{Answer}
use Rattle.oai_host.specs.Alone.{after_read, done_alone}
use Rattle.oai_host.specs.Answers.{IsReply, failure_in}
use Rattle.oai_host.specs.Room.{room_for_task}
use Rattle.oai_host.specs.Tasks.{Task, asking, depositing, refusing}

-- ---- a line of a deposit

-- it was refused: its answer says why, its clock is moved, at which open lists may end, and nothing else is changed
pub record IsRefusedLine (moment : ℤ) (cause : Cause) (before : RepoState) (line : List ℕ) (after : RepoState) : Type 0 where
  pub told : line ≡ refusal_line cause ++ 10 ∷ []
  pub state : after ≡ moved moment before

-- the datestamp that answers a change is that one, unless it is a put
abbrev pub IsStampOf : Change → ℤ → ℤ → Type 0
IsStampOf (change.Deposit identifier sets records) now stamp = stamp ≡ now
IsStampOf (change.Put identifier sets records) now stamp = Unit {0}
IsStampOf (change.Delete identifier) now stamp = stamp ≡ now
IsStampOf (change.Purge before) now stamp = stamp ≡ now
IsStampOf (change.AddSet spec name) now stamp = stamp ≡ now

-- it was accepted: its answer has the datestamp, which is the clock's, or of a put any; a new set is the last one; the clock
-- and the open lists are those at the moment. Nothing is said of the items
pub record IsAcceptedLine (config : RepositoryConfig) (moment : ℤ) (change : Change) (before : RepoState) (line : List ℕ) (after : RepoState) : Type 0 where
  pub stamp : ℤ
  pub stamped : IsStampOf change (stamp_at config after.clock) stamp
  pub told : line ≡ (codes "ok " ++ datestamp_text config.granularity stamp) ++ 10 ∷ []
  pub clock : after.clock ≡ tick before.clock moment
  pub sets : after.holdings.sets ≡ sets_with change before.holdings.sets
  pub open_lists : after.open_lists ≡ (moved moment before).open_lists

-- as it was parsed: accepted or refused
abbrev pub IsLineAnswered : RepositoryConfig → ℤ → Result Change LineRefusal → RepoState → List ℕ → RepoState → Type 0
IsLineAnswered config moment (Ok change) before line after =
    IsAcceptedLine config moment change before line after ⊎ ((cause : ChangeRefusal) × IsRefusedLine moment (in_repository cause) before line after)
IsLineAnswered config moment (Err cause) before line after = IsRefusedLine moment (in_line cause) before line after

-- it was performed, as it was parsed; over an honest store it was a step of the machine
pub record IsLinePerformed (honest : Bool) (config : RepositoryConfig) (moment : ℤ) (read : Result Change LineRefusal) (before : RepoState) (line : List ℕ) (after : RepoState) : Type 0 where
  pub so : IsLineAnswered config moment read before line after
  pub exact : IsTrue honest → after_read config moment before read ≡ (line, after)

-- lines were performed one after the other at one moment, and these are all of their answers
abbrev pub AreLinesPerformed : Bool → RepositoryConfig → ℤ → List (List ℕ) → RepoState → List ℕ → RepoState → Type 0
AreLinesPerformed honest config moment [] before told after = (told ≡ []) × (after ≡ before)
AreLinesPerformed honest config moment (text ∷ lines) before told after =
    (line : List ℕ)
    × (others : List ℕ)
    × (between : RepoState)
    × (told ≡ line ++ others)
    × IsLinePerformed honest config moment (line_of config.forms text) before line between
    × AreLinesPerformed honest config moment lines between others after

-- ---- an exchange

-- a request was replied to: it moves the clock and leaves what is held; over an honest store it was a step of the
-- machine
pub record IsReplied (honest : Bool) (config : RepositoryConfig) (moment : ℤ) (arguments : List ℕ) (before : RepoState) (answer : Answer) (after : RepoState) : Type 0 where
  pub reply : IsReply answer
  pub clock : after.clock ≡ tick before.clock moment
  pub holdings : after.holdings ≡ before.holdings
  pub exact : IsTrue honest → done_alone config before moment (asking arguments) ≡ (answer, after)

-- what is asked was done: nothing; a request; or all lines of a deposit
abbrev pub IsDone : Bool → RepositoryConfig → ℤ → Task → RepoState → Answer → RepoState → Type 0
IsDone honest config moment (refusing status) before answer after = (answer ≡ answered status) × (after ≡ before)
IsDone honest config moment (asking arguments) before answer after = IsReplied honest config moment arguments before answer after
IsDone honest config moment (depositing lines) before answer after =
    (answer ≡ answered_with answer.body) × AreLinesPerformed honest config moment lines before answer.body after

-- a fault ended it: a request has left everything unchanged; for a deposit the answer says how many lines were done,
-- the first ones, and no other
abbrev pub HasStopped : Bool → RepositoryConfig → ℤ → Task → Fault → RepoState → Answer → RepoState → Type 0
HasStopped honest config moment (refusing status) fault before answer after = ⊥
HasStopped honest config moment (asking arguments) fault before answer after = (answer ≡ failed fault None) × (after ≡ before)
HasStopped honest config moment (depositing lines) fault before answer after =
    (done : ℕ)
    × (done < length lines)
    × (answer ≡ failed fault (Some done))
    × (told : List ℕ)
    × AreLinesPerformed honest config moment (take done lines) before told after

-- the state of a store: whether its device returns what was written to it, how often that has failed, and how many
-- calls of the store are sure to find room
pub record StoreState : Type 0 where
  pub honest : Bool
  pub failures : ℕ
  pub room : ℕ

-- an exchange, from a state of the repository and of the store to another: it was done, or a fault ended it; no more
-- room is used than it needs; and the fault has its cause
pub record IsPerformed (config : RepositoryConfig) (moment : ℤ) (task : Task) (answer : Answer) (before : RepoState) (old : StoreState) (after : RepoState) (new : StoreState) : Type 0 where
  pub ended : IsDone old.honest config moment task before answer after
      ⊎ ((fault : Fault) × HasStopped old.honest config moment task fault before answer after)
  pub room : NeedsRoom (room_for_task config task) (failure_in answer) old.room new.room
  pub device : CountsFailures Device (failure_in answer) old.failures new.failures
  pub honesty : IsHonest (failure_in answer) old.honest new.honest
