-- Two repositories in one store: this repository's own.
use Rattle.std.specs.Prelude.{◌≡◌, ℕ, Bool, true, false}
use Rattle.oai_catalogue.specs.Store.{VersionLists}
use Rattle.oai_repo.specs.Fields.{RepoFields, Owns, has, numbers_of}

-- the lists have of each of the two what they have to have of a repository, and no number is one of both
pub record AreBeside (honest : Bool) (one other : RepoFields) (lists : VersionLists) : Type 0 where
  pub first : Owns honest one lists
  pub second : Owns honest other lists
  pub apart : (n : ℕ) → has (numbers_of one) n ≡ true → has (numbers_of other) n ≡ false
