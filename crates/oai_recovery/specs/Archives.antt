-- The state of the hosts of an archive, over all its lives. A life is one run of the server. This repository's own.
use Rattle.std.specs.Prelude.{List}
use Rattle.oai_durable.specs.Checkpoints.{Saving}
use Rattle.oai_durable.specs.Journaled.{Replaying}
use Rattle.oai_host.specs.Exchanged.{IsHandled}
use Rattle.oai_host.specs.Hosts.{HostState, Repository}
use Rattle.oai_host.specs.Redone.{redone_repositories, reply_all}
use Rattle.oai_host.specs.Saved.{emptied_in, ended_in, parts_in, restored_in}
use Rattle.oai_host.specs.Unsaved.{AreSavedBy}

-- the states of the repositories: after calls and parts, the answer to a call, their parts, their state after all lists
-- ended, and their initial state
abbrev pub archive : Saving (List Repository)
archive = record {
  leaving = record { redone = redone_repositories; restored = restored_in };
  reply = reply_all;
  parts = parts_in;
  ended = ended_in;
  emptied = emptied_in;
}

-- a host with these states, as its journal replays it
abbrev pub archived : Replaying HostState
archived = record {
  step = IsHandled;
  Kept = List Repository;
  kept = λ host. host.repositories;
  is_honest = λ host. host.honest;
  leaving = archive.leaving;
  reply = archive.reply;
  saves = λ host. AreSavedBy host.unsaved;
}
