-- A host as a handler that its journal replays. This repository's own.
use Rattle.std.specs.Prelude.{◌≤◌, List}
use Rattle.std.specs.List.{AllByRecursion}
use Rattle.oai_lists.specs.declared.lists.TheConstants.{LAST_NUMBER}
use Rattle.oai_durable.specs.Checkpointed.{Checkpointed}
use Rattle.oai_durable.specs.Checkpoints.{Saving}
use Rattle.oai_durable.specs.Journaled.{Parts, Promised, Replaying}
use Rattle.oai_durable.specs.Records.{Leaving}
use Rattle.oai_host.specs.Exchanged.{IsHandled}
use Rattle.oai_host.specs.Hosts.{HostState, Repository, store_of}
use Rattle.oai_host.specs.Performed.{StoreState}
use Rattle.oai_host.specs.Redone.{redone_repositories, reply_all}
use Rattle.oai_host.specs.Saved.{emptied_in, ended_in, parts_in, restored_in}
use Rattle.oai_host.specs.Unsaved.{AreSavedBy}

-- the state of repositories after calls and parts
abbrev pub leaving : Leaving (List Repository)
leaving = record { redone = redone_repositories; restored = restored_in }

-- the handler, seen as a host: it performs what a host performs, keeps the states of the repositories, and is as honest
-- as the device of its store
abbrev pub hosting : {H : Type 0} → (H → HostState) → Replaying H
hosting {H} view = record {
  step = λ before moment asked answer after. IsHandled (view before) moment asked answer (view after);
  Kept = List Repository;
  kept = λ handler. (view handler).repositories;
  is_honest = λ handler. (view handler).honest;
  leaving = leaving;
  reply = reply_all;
  saves = λ handler. AreSavedBy (view handler).unsaved;
}

-- and how it is saved
abbrev pub saving : Saving (List Repository)
saving = record { leaving = leaving; reply = reply_all; parts = parts_in; ended = ended_in; emptied = emptied_in }

-- the store of a host whose exchanges are logged in a journal
abbrev pub store_in : {J : Type 0} → Parts HostState J → StoreState
store_in parts = store_of parts.handler

-- the same, if checkpoints are written beside them
abbrev pub store_beside : {J K : Type 0} → Checkpointed HostState J K → StoreState
store_beside state = store_in state.parts

-- the number of each next list is one of 64 bits
abbrev pub AreNumbered : List Repository → Type 0
AreNumbered repositories = AllByRecursion (λ (repository : Repository). repository.state.open_lists.next ≤ LAST_NUMBER) repositories

-- how a handler is saved of which they say it
abbrev pub promised_saving : {H : Type 0} → (p : Promised H) → Saving p.Kept
promised_saving p = record {
  leaving = record { redone = p.redone; restored = p.restored };
  reply = p.reply;
  parts = p.parts;
  ended = p.ended;
  emptied = p.emptied;
}
