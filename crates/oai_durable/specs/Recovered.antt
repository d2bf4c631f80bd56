-- A handler that replays the records of a journal. This repository's own.
use Rattle.std.specs.Prelude.{◌≡◌, ◌⊎◌, ℕ, Bool, true, false, IsTrue, List, length}
use Rattle.oai_journal.specs.Changes.{IsChangedAt, IsUndamaged}
use Rattle.oai_journal.specs.Records.{Entry}
use Rattle.oai_journal.specs.Recovered.{HasRecovered, disk_of}
use Rattle.oai_journal.specs.Recoveries.{IsDamagedAt}
use Rattle.oai_journal.specs.declared.recovery.Recovery.{Recovery}
use Rattle.oai_journal.specs.declared.recovery.RecoveryFault.TheVariants.{Damaged, Stopped}
use Rattle.oai_durable.specs.declared.recovery.RecoverFault.{RecoverFault}
use Rattle.oai_durable.specs.declared.recovery.RecoverFault.TheVariants.{Journal, Performing, UnknownKind}
use Rattle.oai_durable.specs.Records.{Leaving, redone_all}

-- these records were read, and the handler replayed them from that beginning
pub record HasRedone {H K D : Type 0} (kept : H → K) (is_honest : H → Bool) (leaving : Leaving K) (seen : D → List ℕ) (may_leave : D → List ℕ → Type 0)
    (begun : K) (handler : H) (recovery : Recovery D) (first : Entry) (entries : List Entry) : Type 0 where
  pub read : HasRecovered seen may_leave recovery first entries
  pub so : IsTrue (is_honest handler) → kept handler ≡ redone_all leaving begun entries

-- all records of the journal, that many, were read and replayed
pub record IsRecovered {H K D : Type 0} (kept : H → K) (is_honest : H → Bool) (leaving : Leaving K) (seen : D → List ℕ) (may_leave : D → List ℕ → Type 0)
    (begun : K) (handler : H) (recovery : Recovery D) (first : Entry) (count : ℕ) : Type 0 where
  pub entries : List Entry
  pub many : length entries ≡ count
  pub has : HasRedone kept is_honest leaving seen may_leave begun handler recovery first entries
  pub undamaged : IsUndamaged (seen (disk_of recovery)) first entries

-- the journal could not be read on
abbrev pub is_of_journal : RecoverFault → Bool
is_of_journal (Journal cause) = true
is_of_journal (UnknownKind number) = false
is_of_journal (Performing number cause) = false

-- a cause reports damage only at a byte where the file is damaged, or where one of its commit bytes was changed
abbrev pub TellsDamage : List ℕ → RecoverFault → Type 0
TellsDamage file (Journal (Damaged at)) = IsDamagedAt file at ⊎ IsChangedAt file at
TellsDamage file (Journal (Stopped cause)) = Unit {0}
TellsDamage file (UnknownKind number) = Unit {0}
TellsDamage file (Performing number cause) = Unit {0}
