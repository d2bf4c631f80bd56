-- What a crash leaves while a journal is renamed over another.
use Rattle.std.proofs.Common.{◌≡◌, ◌∙◌, inl, inr, ℕ, List, length, take}
use Rattle.std.proofs.lemmas.List.{take_all}
use Rattle.oai_journal.specs.Kept.{HoldsRecords, disk_in}
use Rattle.oai_journal.specs.Records.{Entry}
use Rattle.oai_journal.specs.declared.file.FileJournal.{FileJournal}
use Rattle.oai_durable.specs.Records.{Leaving, redone_all}
use Rattle.oai_durable.specs.Stood.{StandInFor}
use Rattle.oai_durable.specs.Switches.{FolderLeaves, StandsForAll, SwitchPhase, renamed, synced, unrenamed}
use Rattle.oai_durable.proofs.StandLemmas.{stand_replaced, stand_same}

-- what a crash leaves of a journal, all of it durable, is one of these records
whole_left : {K D : Type 0} (leaving : Leaving K) (begun : K) (seen : D → List ℕ) (may_leave : D → List ℕ → Type 0) (journal : FileJournal D) (entries records : List Entry) (file : List ℕ)
    → HoldsRecords seen may_leave journal records (length records) → may_leave (disk_in journal) file
    → redone_all leaving begun records ≡ redone_all leaving begun entries → StandsForAll leaving begun entries file
whole_left leaving begun seen may_leave journal entries records file holds left same =
    let survives = (holds.1).survives file left in
    let all : take survives.count records ≡ records = take_all survives.count records survives.enough in
    record {
      first = holds.0;
      found = records;
      is = rw all at survives.ends;
      only = λ other others is. survives.only other others is ∙ all;
      stands = stand_replaced leaving begun entries records same;
    }

pub switch_left : {K D E : Type 0} (leaving : Leaving K) (seen : D → List ℕ) (of_old : D → List ℕ → Type 0) (shown : E → List ℕ) (of_new : E → List ℕ → Type 0)
    (begun : K) (entries held saved : List Entry) (old : FileJournal D) (new : FileJournal E) (phase : SwitchPhase) (file : List ℕ)
    → HoldsRecords seen of_old old held (length held)
    → StandInFor leaving begun entries (length entries) held (length held)
    → HoldsRecords shown of_new new saved (length saved)
    → redone_all leaving begun saved ≡ redone_all leaving begun held
    → FolderLeaves of_old of_new (disk_in old) (disk_in new) phase file
    → StandsForAll leaving begun entries file
switch_left {K} {D} {E} leaving seen of_old shown of_new begun entries held saved old new phase file holds stands has same leaves = by phase leaves where
  there : redone_all leaving begun held ≡ redone_all leaving begun entries
  there = stand_same leaving begun entries (length entries) held (length held) stands

  from_old : of_old (disk_in old) file → StandsForAll leaving begun entries file
  from_old left = whole_left leaving begun seen of_old old entries held file holds left there

  from_new : of_new (disk_in new) file → StandsForAll leaving begun entries file
  from_new left = whole_left leaving begun shown of_new new entries saved file has left (same ∙ there)

  by : (at : SwitchPhase) → FolderLeaves of_old of_new (disk_in old) (disk_in new) at file → StandsForAll leaving begun entries file
  by unrenamed left = from_old left
  by renamed (inl left) = from_old left
  by renamed (inr left) = from_new left
  by synced left = from_new left
