-- What the calls of a repository return and leave, in the machine's words: this repository's own.
use Rattle.std.specs.Prelude.{◌≡◌, ℕ, ℤ, Bool, true, false, List, None, Result, Ok, Err, OnOk}
use Rattle.oai_item.specs.Refusals.{in_repository}
use Rattle.oai_deposit.specs.declared.changes.Change.{Change}
use Rattle.oai_item.specs.declared.faults.Fault.{Fault}
use Rattle.oai_args.specs.Asks.{AskOrError, asks}
use Rattle.oai_args.specs.declared.requests.Ask.TheVariants as ask
use Rattle.oai_catalogue.specs.Store.{VersionLists}
use Rattle.oai_time.specs.Clock.{tick}
use Rattle.oai_time.specs.Stamp.{IsWritable}
use Rattle.oai_holdings.specs.Accepted.{KeepsChange, noted_stamp}
use Rattle.oai_holdings.specs.Calls.{early_refusal}
use Rattle.oai_holdings.specs.Changes.{stamp_at}
use Rattle.oai_holdings.specs.Index.{holdings_of}
use Rattle.oai_repo.specs.Fields.{RepoFields, state_of}
use Rattle.oai_repo.specs.Machine.{Output, act_at, accepted, bytes, changing, query, refused_with, step, wait}
use Rattle.oai_repo.specs.State.{moved}
use Rattle.oai_repo.specs.Tables.{HoldsFew, IsAskedOf, dropped_at}
use Rattle.oai_item.specs.declared.refusals.Refusal.{Refusal}
use Rattle.oai_item.specs.declared.refusals.Refusal.TheVariants as refusal
use Rattle.oai_repo.specs.declared.responses.Reply.{Reply}
use Rattle.oai_repo.specs.declared.responses.Reply.TheVariants.{Later, Page}

-- ---- what is returned, over an honest store

-- the output that a reply is
abbrev pub output_of_reply : Reply → Output
output_of_reply (Page page) = bytes page
output_of_reply (Later seconds) = wait seconds

-- a request was performed: it is a step
abbrev pub IsAsked : RepoFields → VersionLists → ℤ → List ℕ → Reply → RepoFields → VersionLists → Type 0
IsAsked old before moment arguments reply new after =
    step old.config (state_of old before) moment (query arguments) ≡ (output_of_reply reply, state_of new after)

-- the state after a request whose reply is dropped: that of a step
abbrev pub IsLeftByStep : RepoFields → VersionLists → ℤ → List ℕ → RepoFields → VersionLists → Type 0
IsLeftByStep old before moment arguments new after = state_of new after ≡ (step old.config (state_of old before) moment (query arguments)).1

-- a change was made or refused: it is what the machine does; or it is a fault, if no early cause refuses the change
abbrev pub IsChanged : RepoFields → VersionLists → ℤ → Change → Result ℤ Refusal → RepoFields → VersionLists → Type 0
IsChanged old before moment change (Ok stamp) new after = act_at old.config (state_of old before) moment (changing change) ≡ (accepted stamp, state_of new after)
IsChanged old before moment change (Err (refusal.Refused cause)) new after =
    act_at old.config (state_of old before) moment (changing change) ≡ (refused_with (in_repository cause), state_of new after)
IsChanged old before moment change (Err (refusal.Fault fault)) new after = early_refusal old.config (holdings_of old.index old.sets before) change ≡ None

-- ---- what a request may change besides the clock

-- it asks for a list of records, which may begin, or continues one; an error and any other request change no list
abbrev pub changes_lists : AskOrError → Bool
changes_lists (asks (ask.List verb prefix from until set)) = true
changes_lists (asks (ask.Resume verb token)) = true
changes_lists request = false

-- ---- how much room a call needs, over any store

-- a request: for one call of the store if it may open a list (section 3.5), and for none otherwise
abbrev pub room_to_ask : AskOrError → ℕ
room_to_ask (asks (ask.List verb prefix from until set)) = 1
room_to_ask request = 0

-- ---- what is left, over any store

-- a call that failed has left the repository and all lists unchanged; any other has moved the clock to the moment
abbrev pub IsClockAt : {A : Type 0} → Result A Fault → ℤ → RepoFields → VersionLists → RepoFields → VersionLists → Type 0
IsClockAt (Ok _) moment old before new after = new.clock ≡ tick old.clock moment
IsClockAt (Err fault) moment old before new after = (new ≡ old) × (after ≡ before)

-- the first of the lists that have ended is removed from the table, and nothing else is changed in it; so no more are
-- held than may be open, if no more were
pub record DropsEnded (old new : RepoFields) : Type 0 where
  pub table : new.table ≡ dropped_at new.clock old.table
  pub few : HoldsFew old.table → HoldsFew new.table

-- what a request leaves of the fields: the index is unchanged; and where it was answered, the table is one that it makes,
-- without the first list that has ended
pub record LeavesFields {A : Type 0} (result : Result A Fault) (old new : RepoFields) : Type 0 where
  pub index : new.index ≡ old.index
  pub table : OnOk result (IsAskedOf new.clock old.table new.table)

-- a change was refused: the state is the one at the moment, the index is unchanged, and the first list that has ended
-- is gone
pub record IsRefusedAt (moment : ℤ) (old : RepoFields) (before : VersionLists) (new : RepoFields) (after : VersionLists) : Type 0 where
  pub state : state_of new after ≡ moved moment (state_of old before)
  pub index : new.index ≡ old.index
  pub dropped : DropsEnded old new

-- a change was answered with that datestamp: it is that of the clock or, of a put, that of its item, in the years 0000 to
-- 9999, the index has the entries of the change, a new set is the last one, the open lists are those at the moment, and the first that has
-- ended is gone
pub record IsAccepted (moment stamp : ℤ) (change : Change) (old : RepoFields) (before : VersionLists) (new : RepoFields) (after : VersionLists) : Type 0 where
  pub writable : IsWritable stamp
  pub stamped : stamp ≡ noted_stamp (stamp_at new.config new.clock) change new.index.entries
  pub kept : KeepsChange old.config.deleted (stamp_at new.config new.clock) change old.index.entries new.index.entries old.sets new.sets
  pub open_lists : (state_of new after).open_lists ≡ (moved moment (state_of old before)).open_lists
  pub dropped : DropsEnded old new
