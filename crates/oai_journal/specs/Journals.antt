-- A journal: records, of which that many, from the first on, are durable.
use Rattle.std.specs.Prelude.{◌≡◌, ℕ, ◌≤◌, List, [], ◌∷◌, ◌++◌, take, Option, Some}
use Rattle.oai_journal.specs.Records.{Entry}

-- what a crash leaves of the records: a prefix that has all durable ones
pub record IsLeft (durable : ℕ) (entries found : List Entry) : Type 0 where
  pub count : ℕ
  pub enough : durable ≤ count
  pub is : found ≡ take count entries

-- behind some records that were read there were others, of which the first was read next
pub record IsReadNext (Stands : List Entry → Type 0) (record' : Option Entry) (read behind : List Entry) : Type 0 where
  pub entry : Entry
  pub others : List Entry
  pub is : behind ≡ entry ∷ others
  pub stands : Stands (read ++ entry ∷ [])
  pub says : record' ≡ Some entry
