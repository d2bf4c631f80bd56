-- A life of the server that people run: a startup, and the service after it. This repository's own.
use Rattle.std.specs.Prelude.{◌≡◌, ℕ, Bool, IfSome, IsTrue, List, [], length, map, Option, None, Result, Ok}
use Rattle.oai_item.specs.declared.forms.Forms.{Forms}
use Rattle.oai_config.specs.Configs.{HostConfig}
use Rattle.oai_config.specs.Reading.{IsRead}
use Rattle.oai_startup.specs.Rules.{HaveRules}
use Rattle.oai_archive.specs.Firsts.{IsOf}
use Rattle.oai_host.specs.Hosts.{HostState, begun}
use Rattle.oai_journal.specs.Changes.{IsUndamaged}
use Rattle.oai_journal.specs.Records.{Entry}
use Rattle.oai_journal.specs.Recovered.{disk_of}
use Rattle.oai_journal.specs.declared.file.FileJournal.{FileJournal}
use Rattle.oai_journal.specs.declared.journals.Journal as journal
use Rattle.oai_journal.specs.declared.recovery.Recovery.{Recovery}
use Rattle.oai_serving.specs.Accepted.{Known, PassesNone}
use Rattle.oai_serving.specs.Rounds.{IsService, World}
use Rattle.oai_serving.specs.declared.faults.ServeFault.{ServeFault}
use Rattle.oai_keys.specs.Guards.{Guards}
use Rattle.oai_keys.specs.declared.rings.Ring.{Ring}
use Rattle.oai_durable.specs.Checkpointed.{IsExchangeBeside, IsSettledBeside}
use Rattle.oai_durable.specs.Journaled.{IsHeld}
use Rattle.oai_durable.specs.declared.either.EitherJournal.TheVariants.{Second}
use Rattle.oai_recovery.specs.Archives.{archive, archived}
use Rattle.oai_daemon.specs.Served.{Logged, OneJournal}
use Rattle.oai_daemon.specs.Watches.{Watches}
use Rattle.oai_recovery.specs.declared.origins.Origin.{Origin}
use Rattle.oai_recovery.specs.declared.origins.Origin.TheVariants.{Begun}

-- the host begins with these records replayed, which are all that the journal's file has, and all of them are durable;
-- the journal is of the configuration in the text, with records of these forms, and if it was begun there are none. No
-- checkpoint is written
pub record BeginsWithAll {D E : Type 0} (j : journal.Ghosts (OneJournal D E)) (file : List ℕ) (forms : Forms) (text : List ℕ) (origin : Origin) (config : HostConfig)
    (begins : Logged HostState D E) : Type 0 where
  pub first : Entry
  pub own : IsOf forms first.name first.body text
  pub found : List Entry
  pub all : IsUndamaged file first found
  pub held : IsHeld archived j (map begun config.repositories) begins.parts found (length found)
  pub fresh : origin ≡ Begun → found ≡ []
  pub writing : begins.writing ≡ None
  pub unsynced : begins.unsynced ≡ None

-- the server of the configuration in the text, which satisfies its rules, lived under those keys until it ended so, in
-- that world, after those streams were accepted: over a disk that returned what was written to it, as far as the
-- journal was read, it began with all records of the journal replayed, which has that origin, and is the one in those
-- bytes, if they are known; it had no connection then, and none was accepted before; and it was a service
pub record HasLived {S D E : Type 0} (j : journal.Ghosts (OneJournal D E)) (k : journal.Ghosts (FileJournal E)) (seen : D → List ℕ) (is_clean : D → Bool) (contents remaining : S → Option (List ℕ))
    (held : Option (List ℕ)) (text : List ℕ) (rings : List Ring) (origin : Origin) (later : Known S) (result : Result (Unit {0}) ServeFault) (new : World S (Logged HostState D E)) : Type 0 where
  pub forms : Forms
  pub config : HostConfig
  pub read : IsRead forms text (Ok config)
  pub rules : HaveRules config
  pub recovery : Recovery D
  pub file : IfSome held (λ file. seen (disk_of recovery) ≡ file)
  pub known : Known S
  pub passed : PassesNone known
  pub old : World S (Logged HostState D E)
  pub begins : IsTrue (is_clean (disk_of recovery)) → BeginsWithAll j (seen (disk_of recovery)) forms text origin config old.handler
  pub unlinked : old.links.slots ≡ []
  pub none : old.last ≡ 0
  pub serves : IsService (Watches (Guards rings (IsExchangeBeside archived j))) (IsSettledBeside archived j k archive.emptied Second) contents remaining known later old result new
