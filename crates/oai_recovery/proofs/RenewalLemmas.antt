-- A journal that is replaced by a checkpoint.
use Rattle.std.proofs.Common.{◌≡◌, ◌∙◌, ℕ, Bool, IfOk, IsTrue, List, Option, Result, Ok, Err, length, map, refl, subst, sym, take, take_all}
use Rattle.oai_item.specs.declared.forms.Forms.{Forms}
use Rattle.oai_item.specs.declared.forms.Forms.TheVariants.{Elements}
use Rattle.oai_config.specs.Configs.{HostConfig}
use Rattle.oai_config.specs.Reading.{IsRead}
use Rattle.oai_archive.specs.Firsts.{IsOf}
use Rattle.oai_journal.specs.Files.{IsJournalFile}
use Rattle.oai_journal.specs.Kept.{HoldsRecords, disk_in}
use Rattle.oai_journal.specs.Records.{Entry}
use Rattle.oai_journal.specs.declared.file.FileJournal.{FileJournal}
use Rattle.oai_journal.specs.Recovered.{disk_of}
use Rattle.oai_journal.specs.declared.journals.Journal as journal
use Rattle.oai_journal.specs.declared.recovery.Recovery.{Recovery}
use Rattle.oai_durable.specs.Checkpoints.{HoldsCheckpoint, IsCheckpoint, Saving}
use Rattle.oai_durable.specs.Recovered.{IsRecovered}
use Rattle.oai_host.specs.Hosts.{HostState, Repository, begun}
use Rattle.oai_recovery.specs.Archives.{archive, archived}
use Rattle.oai_recovery.specs.Renewals.{HasReadBack, HasRenewed, IsRenewed, IsSaved, is_checkpoint}
use Rattle.oai_recovery.specs.Starts.{HasReplayed, HasStarted}
use Rattle.oai_recovery.specs.declared.origins.Origin.{Origin}
use Rattle.oai_recovery.specs.declared.origins.Origin.TheVariants.{Shortened}

-- what holds of a checkpoint holds where its origin is handed on
pub renewed_over : {A E : Type 0} (R : Type 0) (came : A → Origin) (origin : Origin) (result : Result A E) → (IsTrue (is_checkpoint origin) → R)
    → IfOk result (λ (a : A). came a ≡ origin) → IfOk result (λ (a : A). IsTrue (is_checkpoint (came a)) → R)
renewed_over R came origin (Ok a) renewed same = λ is. renewed (subst (λ (o : Origin). IsTrue (is_checkpoint o)) same is)
renewed_over R came origin (Err e) renewed nothing = nothing

-- what holds of any origin
pub renewed_always : {A E : Type 0} (R : Type 0) (came : A → Origin) (result : Result A E) → R → IfOk result (λ (a : A). IsTrue (is_checkpoint (came a)) → R)
renewed_always R came (Ok a) renewed = λ is. renewed
renewed_always R came (Err e) renewed = tt

-- a crash leaves all records of a checkpoint, and no others
pub checkpoint_left : {K D : Type 0} (s : Saving K) (seen : D → List ℕ) (may_leave : D → List ℕ → Type 0) (kept : K) (raise : ℕ) (written : FileJournal D) (records : List Entry)
    → IsCheckpoint s kept raise records → HoldsRecords seen may_leave written records (length records)
    → (file : List ℕ) (first : Entry) (found : List Entry) → may_leave (disk_in written) file → IsJournalFile file first found → IsCheckpoint s kept raise found
checkpoint_left s seen may_leave kept raise written records is held file first found left ends =
    let survives = (held.1).survives file left in
    let whole : take survives.count records ≡ records = take_all survives.count records survives.enough in
    subst (λ (rs : List Entry). IsCheckpoint s kept raise rs) (sym (survives.only first found ends ∙ whole)) is

-- all records were replayed, and a checkpoint was written of the state that they leave
pub saved_of : {H K O J : Type 0} (s : Saving K) (kept : H → K) (is_honest : H → Bool) (seen : O → List ℕ) (may_leave : O → List ℕ → Type 0) (j : journal.Ghosts J)
    (begun : K) (handler : H) (old : Recovery O) (first : Entry) (count raise : ℕ) (written : J)
    → IsRecovered kept is_honest s.leaving seen may_leave begun handler old first count → IsTrue (is_honest handler)
    → HoldsCheckpoint s j (kept handler) raise written → IsSaved s j (seen (disk_of old)) begun first raise written
saved_of {H} {K} s kept is_honest seen may_leave j begun handler old first count raise written done honest holds = record {
  entries = done.entries;
  all = done.undamaged;
  holds = subst (λ (k : K). HoldsCheckpoint s j k raise written) (done.has.so honest) holds;
}

-- the same of a host of the configuration in the first record
pub renewed_of : {J : Type 0} (j : journal.Ghosts J) (file : List ℕ) (first : Entry) (forms : Forms) (text : List ℕ) (config : HostConfig) (kept : List Repository) (raise : ℕ) (written : J)
    → IsOf forms first.name first.body text → IsRead forms text (Ok config) → kept ≡ map begun config.repositories
    → IsSaved archive j file kept first raise written → IsRenewed j file raise written
renewed_of j file first forms text config kept raise written own read same saved = record {
  first = first;
  forms = forms;
  text = text;
  own = own;
  config = config;
  read = read;
  saved = subst (λ (k : List Repository). IsSaved archive j file k first raise written) same saved;
}

-- a host replayed a journal, and a checkpoint was written of its state
pub shortened_of : {D J : Type 0} (seen : D → List ℕ) (may_leave : D → List ℕ → Type 0) (is_clean : D → Bool) (held : Option (List ℕ)) (text : List ℕ) (origin : Origin) (count : ℕ) (host : HostState) (recovery : Recovery D)
    (j : journal.Ghosts J) (is_honest : Bool) (raise : ℕ) (written : J) → HasStarted seen may_leave is_clean held text origin count host recovery → (IsTrue is_honest → IsTrue host.honest)
    → (IsTrue host.honest → HoldsCheckpoint archive j host.repositories raise written) → HasRenewed seen is_clean j is_honest raise
shortened_of seen may_leave is_clean held text origin count host recovery j is_honest raise written started honesty saved = record {
  old = recovery;
  written = written;
  renewed = λ honest clean.
      let all = started.replayed.redone clean in
      renewed_of j (seen (disk_of recovery)) all.0 started.forms text started.config (map begun started.config.repositories) raise written all.1 started.read refl
      (saved_of archive archived.kept archived.is_honest seen may_leave j (map begun started.config.repositories) host recovery all.0 count raise written all.2 (honesty honest) (saved (honesty honest)));
}

-- a checkpoint was replayed by a host in that state
pub read_back : {D : Type 0} (seen : D → List ℕ) (may_leave : D → List ℕ → Type 0) (is_clean : D → Bool) (held : Origin → Option (List ℕ)) (forms : Forms) (text : List ℕ) (begun : List Repository)
    (first after : HostState) (origin : Origin) (count : ℕ) (recovery : Recovery D)
    → first.repositories ≡ begun → origin ≡ Shortened → forms ≡ Elements
    → HasReplayed archived.kept archived.is_honest archived.leaving seen may_leave is_clean (held origin) forms text first.repositories origin count after recovery
    → HasReadBack seen may_leave is_clean (held Shortened) text begun
read_back seen may_leave is_clean held forms text begun first after origin count recovery same is of replayed = record {
  count = count;
  host = after;
  recovery = recovery;
  replayed = subst (λ (f : Forms). HasReplayed archived.kept archived.is_honest archived.leaving seen may_leave is_clean (held Shortened) f text begun Shortened count after recovery) of
      (subst (λ (o : Origin). HasReplayed archived.kept archived.is_honest archived.leaving seen may_leave is_clean (held o) forms text begun o count after recovery) is
      (subst (λ (k : List Repository). HasReplayed archived.kept archived.is_honest archived.leaving seen may_leave is_clean (held origin) forms text k origin count after recovery) same replayed));
}
