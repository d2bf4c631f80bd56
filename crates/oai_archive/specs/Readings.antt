-- How far the journal of an archive was read. This repository's own.
use Rattle.std.specs.Prelude.{◌≡◌, List, [], ℕ, Some, length}
use Rattle.oai_journal.specs.Changes.{IsUndamaged}
use Rattle.oai_journal.specs.Records.{Entry}
use Rattle.oai_journal.specs.Recovered.{HasRecovered, current, disk_of}
use Rattle.oai_journal.specs.declared.recovery.Recovery.{Recovery}
use Rattle.oai_item.specs.declared.forms.Forms.{Forms}
use Rattle.oai_archive.specs.Firsts.{IsOf}

-- its first record was read
abbrev pub HasBegun : {D : Type 0} → (D → List ℕ) → (D → List ℕ → Type 0) → Recovery D → Type 0
HasBegun seen may_leave recovery = (first : Entry) × HasRecovered seen may_leave recovery first [] × (current recovery ≡ Some first)

-- it was, and it is of the configuration in the text, but for how many pages the cache has, and its records have these forms
abbrev pub HasBegunFor : {D : Type 0} → (D → List ℕ) → (D → List ℕ → Type 0) → Forms → List ℕ → Recovery D → Type 0
HasBegunFor seen may_leave forms text recovery =
    (first : Entry) × HasRecovered seen may_leave recovery first [] × (current recovery ≡ Some first) × IsOf forms first.name first.body text

-- it was read to its end: it is a whole journal, and a crash leaves exactly the bytes that were read
pub record IsReadBack {D : Type 0} (seen : D → List ℕ) (may_leave : D → List ℕ → Type 0) (recovery : Recovery D) : Type 0 where
  pub first : Entry
  pub entries : List Entry
  pub has : HasRecovered seen may_leave recovery first entries
  pub whole : IsUndamaged (seen (disk_of recovery)) first entries

-- the same, and that many records follow its first one
pub record IsVerified {D : Type 0} (seen : D → List ℕ) (recovery : Recovery D) (count : ℕ) : Type 0 where
  pub first : Entry
  pub entries : List Entry
  pub many : length entries ≡ count
  pub whole : IsUndamaged (seen (disk_of recovery)) first entries
