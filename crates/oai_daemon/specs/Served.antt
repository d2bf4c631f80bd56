-- How far a server has come behind its startup, with which a life goes on. This repository's own.
use Rattle.std.specs.Prelude.{◌≡◌, ℕ, List, [], length, Option, None, Result}
use Rattle.oai_journal.specs.Records.{Entry}
use Rattle.oai_journal.specs.declared.file.FileJournal.{FileJournal}
use Rattle.oai_journal.specs.declared.journals.Journal as journal
use Rattle.oai_journal.specs.declared.recovery.Recovery.{Recovery}
use Rattle.oai_front.specs.Performing.{Steps}
use Rattle.oai_serving.specs.Accepted.{Known}
use Rattle.oai_serving.specs.Rounds.{IsService, Settles, World}
use Rattle.oai_serving.specs.declared.faults.ServeFault.{ServeFault}
use Rattle.oai_keys.specs.Guards.{Guards}
use Rattle.oai_keys.specs.declared.rings.Ring.{Ring}
use Rattle.oai_durable.specs.Checkpointed.{Checkpointed, IsExchangeBeside, IsSettledBeside}
use Rattle.oai_durable.specs.Journaled.{IsHeld, Replaying}
use Rattle.oai_durable.specs.Recovered.{HasRedone}
use Rattle.oai_durable.specs.declared.either.EitherJournal.{EitherJournal}
use Rattle.oai_durable.specs.declared.either.EitherJournal.TheVariants.{Second}
use Rattle.oai_daemon.specs.Watches.{Watches}

-- a server with that handler and no connection served, from when those streams were accepted, until it ended so, in
-- that world
pub record HasServed {S H : Type 0} (step : Steps H) (settled : Settles H) (contents remaining : S → Option (List ℕ)) (handler : H)
    (known later : Known S) (result : Result (Unit {0}) ServeFault) (new : World S H) : Type 0 where
  pub old : World S H
  pub handles : old.handler ≡ handler
  pub unlinked : old.links.slots ≡ []
  pub none : old.last ≡ 0
  pub serves : IsService step settled contents remaining known later old result new

-- a journal with which a server began, on a disk of the first kind, or one on a disk of the second kind that took its
-- place
abbrev pub OneJournal : Type 0 → Type 0 → Type 0
OneJournal D E = EitherJournal (FileJournal D) (FileJournal E)

-- a handler with such a journal, beside whose exchanges one of the second kind may be written
abbrev pub Logged : Type 0 → Type 0 → Type 0 → Type 0
Logged H D E = Checkpointed H (OneJournal D E) (FileJournal E)

-- the handler served with the journal whose records it replayed, under those keys, until it ended so; no checkpoint was
-- written as it began
pub record HasResumed {S H D E : Type 0} (h : Replaying H) (j : journal.Ghosts (OneJournal D E)) (k : journal.Ghosts (FileJournal E)) (emptied : h.Kept → h.Kept)
    (seen : D → List ℕ) (may_leave : D → List ℕ → Type 0) (contents remaining : S → Option (List ℕ)) (handler : H) (recovery : Recovery D) (rings : List Ring)
    (known later : Known S) (result : Result (Unit {0}) ServeFault) (new : World S (Logged H D E)) : Type 0 where
  pub first : Logged H D E
  pub begins : (begun : h.Kept) (entry : Entry) (entries : List Entry) → HasRedone h.kept h.is_honest h.leaving seen may_leave begun handler recovery entry entries
      → IsHeld h j begun first.parts entries (length entries)
  pub writing : first.writing ≡ None
  pub unsynced : first.unsynced ≡ None
  pub served : HasServed (Watches (Guards rings (IsExchangeBeside h j))) (IsSettledBeside h j k emptied Second) contents remaining first known later result new
