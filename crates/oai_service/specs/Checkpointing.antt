-- A journaled handler beside whose exchanges checkpoints are written, as the theorem of a server has it. This
-- repository's own.
use Rattle.std.specs.Prelude.{◌≡◌, length, None}
use Rattle.oai_journal.specs.declared.journals.Journal as journal
use Rattle.oai_durable.specs.Checkpointed.{Checkpointed, IsExchangeBeside, IsSettledBeside, IsSettlingSound, MayLeaveBeside}
use Rattle.oai_durable.specs.Journaled.{IsHeld, Replaying}
use Rattle.oai_durable.specs.Records.{redone_all}
use Rattle.oai_service.specs.Keeping.{Keeping}

-- it begins with no checkpoint that is written. What was read for one in a settling that made a step of it was right.
-- Records stand for all others that leave the same state. A step of a checkpoint may fail in the store, so between two
-- messages only its honesty stays
abbrev pub checkpointing : {H J K : Type 0} → (h : Replaying H) → journal.Ghosts J → journal.Ghosts K → (h.Kept → h.Kept) → (K → J) → Keeping (Checkpointed H J K) h.Kept
checkpointing h j k emptied second = record {
  step = IsExchangeBeside h j;
  settled = IsSettledBeside h j k emptied second;
  sound = IsSettlingSound h j k emptied second;
  begins = λ begun state found. IsHeld h j begun state.parts found (length found) × (state.writing ≡ None) × (state.unsynced ≡ None);
  may_leave = MayLeaveBeside j k;
  stands = λ begun file entries. redone_all h.leaving begun file ≡ redone_all h.leaving begun entries;
  changes = λ old new. new.honest ≡ old.honest;
}
