-- Records of a journal that are copied to another one. This repository's own.
use Rattle.std.specs.Prelude.{◌≡◌, ◌<◌, ℕ, Bool, false, IsTrue, List, [], ◌∷◌, ◌++◌, length}
use Rattle.oai_journal.specs.Records.{Entry}

-- the first of the records behind those that were read is read, and stands behind the others in the copy
pub record IsCopied (Stands Holds : List Entry → Type 0) (read behind others : List Entry) : Type 0 where
  pub entry : Entry
  pub rest : List Entry
  pub is : behind ≡ entry ∷ rest
  pub stands : Stands (read ++ entry ∷ [])
  pub holds : Holds (others ++ entry ∷ [])

-- the first ones of them are: all, if no more may be left; if more may be left, and bytes were wanted, fewer are left
pub record AreCopied (Stands Holds : List Entry → Type 0) (read behind others : List Entry) (bytes : ℕ) (more : Bool) : Type 0 where
  pub some : List Entry
  pub rest : List Entry
  pub are : behind ≡ some ++ rest
  pub stand : Stands (read ++ some)
  pub hold : Holds (others ++ some)
  pub all : more ≡ false → rest ≡ []
  pub fewer : IsTrue more → 0 < bytes → length rest < length behind
