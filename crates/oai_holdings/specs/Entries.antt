-- The index of a repository's items: the datestamp of each in its store. This repository's own.
use Rattle.std.specs.Prelude.{◌≡◌, ◌+◌, ◌≤◌, ℕ, ℤ, List, length, if◌then◌else◌, Option, None, Some, IsSome, IfSome, find, map}
use Rattle.std.specs.BTreeMap.{BTreeMap}
use Rattle.std.specs.Option.{option_map}
use Rattle.std.specs.Str.{bytes_eq}
use Rattle.std.specs.String.{string_bytes}
use Rattle.std.specs.declared.string.String.{String}
use Rattle.oai_item.specs.Item.{IsStamp}

-- identifiers, each with a datestamp in seconds from 1970 on
abbrev pub IndexEntries : Type 0
IndexEntries = List (List ℕ × ℤ)

-- the datestamp that the entries have for an identifier
unfoldable pub stamp_in : List ℕ → IndexEntries → Option ℤ
stamp_in identifier entries = option_map (λ (entry : List ℕ × ℤ). entry.1) (find (λ (entry : List ℕ × ℤ). bytes_eq identifier entry.0) entries)

-- each datestamp lies in the years 0000 to 9999
abbrev pub AreDated : IndexEntries → Type 0
AreDated entries = (identifier : List ℕ) → IfSome (stamp_in identifier entries) IsStamp

-- the entries of a map from identifiers to datestamps
abbrev pub entries_in : {Y : Type 0} → BTreeMap (String Y) ℤ → IndexEntries
entries_in stamps = map (λ e. (string_bytes e.0, e.1)) stamps.entries

-- the entries with another datestamp, or none, for an identifier, and all others unchanged
abbrev pub SetsStamp : List ℕ → Option ℤ → IndexEntries → IndexEntries → Type 0
SetsStamp identifier stamp old new = (q : List ℕ) → stamp_in q new ≡ (if bytes_eq identifier q then stamp else stamp_in q old)

-- how many entries there are after an identifier is given a datestamp: one more, if it had none
abbrev pub count_with : Option ℤ → ℕ → ℕ
count_with None many = many + 1
count_with (Some stamp) many = many

-- the entries, of which some may be gone, and no other is changed
abbrev pub ForgetsSome : IndexEntries → IndexEntries → Type 0
ForgetsSome old new = (q : List ℕ) → IsSome (stamp_in q new) → stamp_in q new ≡ stamp_in q old

-- some entries may be gone, no other is changed, and there are no more
pub record Forgets (old new : IndexEntries) : Type 0 where
  pub some : ForgetsSome old new
  pub fewer : length new ≤ length old

-- an identifier that had a datestamp has another one, or none; all others are unchanged, and there are no more entries
pub record Restamps (identifier : List ℕ) (stamp : Option ℤ) (old new : IndexEntries) : Type 0 where
  pub there : IsSome (stamp_in identifier old)
  pub stamped : SetsStamp identifier stamp old new
  pub fewer : length new ≤ length old
