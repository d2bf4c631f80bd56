-- What the table of open lists stores beside its lists, and what this crate's private functions find. No definition
-- rests on it.
use Rattle.std.specs.Prelude.{◌≡◌, ◌<◌, ◌^◌, ℕ, ℤ, int_le, true, List, decimal, Option, None, Some}
use Rattle.std.specs.Int.{int_min}
use Rattle.std.specs.List.{list_all}
use Rattle.oai_names.specs.Numbered.{IsPlaceOf, none_has}
use Rattle.oai_lists.specs.OpenLists.{Table, IsListTable, list_number}
use Rattle.oai_lists.specs.declared.open_lists.OpenList.{OpenList}
use Rattle.oai_lists.specs.declared.tokens.Token.{Token}

-- the lists are numbered, and none ends before that moment
pub record IsHeldTable (table : Table) (earliest : ℤ) : Type 0 where
  pub numbers : IsListTable table
  pub bound : list_all (λ list. int_le earliest list.end) table.lists ≡ true

-- the earlier of two moments, of which the first may be missing
abbrev pub earlier : Option ℤ → ℤ → ℤ
earlier None second = second
earlier (Some first) second = int_min first second

-- none of the lists has that number
abbrev pub no_list_numbered : ℕ → List OpenList → Type 0
no_list_numbered number lists = none_has list_number number lists

-- the position of the list with that number: there, and nowhere else
abbrev pub IsListPlace : ℕ → List OpenList → Option ℕ → Type 0
IsListPlace number lists place = IsPlaceOf list_number number lists place

-- the two texts spell the numbers of the token, of 64 bits, both decimal without leading zeros
abbrev pub AreNumbers : List ℕ → List ℕ → Token → Type 0
AreNumbers list cursor token =
    (token.list < 2 ^ 64) × (token.cursor < 2 ^ 64)
    × (list ≡ decimal token.list) × (cursor ≡ decimal token.cursor)
