-- A repository beside another one in a store: what the one's calls leave of the other.
use Rattle.std.proofs.Common.{◌≡◌, inl, inr, ℕ, true, false, eqb, is_some}
use Rattle.std.proofs.lemmas.Bool.{cases_Bool, or_left, or_right}
use Rattle.oai_catalogue.specs.Store.{VersionLists}
use Rattle.oai_repo.specs.Fields.{RepoFields, IsStored, KeepsOthers, HasNumbersIn, has, numbers_of, versions_in}
use Rattle.oai_repo.proofs.OpenListLemmas.{indexed_same, table_agrees_same}
use Rattle.oai_repo.proofs.NumberLemmas.{clash, none_false, same_number, used_at, used_by}

-- no number is one of both
abbrev pub AreApart : RepoFields → RepoFields → Type 0
AreApart one other = (n : ℕ) → has (numbers_of one) n ≡ true → has (numbers_of other) n ≡ false

pub apart_turned : (one other : RepoFields) → AreApart one other → AreApart other one
apart_turned one other apart n there = elim (cases_Bool (has (numbers_of one) n)) [
  | inl both ↦ clash (has (numbers_of other) n) there (apart n both)
  | inr lacks ↦ lacks
]

-- a number of the other one is not taken
not_taken : (old new other : RepoFields) (before after : VersionLists) → KeepsOthers (numbers_of old) before (numbers_of new) after → HasNumbersIn other before → AreApart other old
    → (n : ℕ) → has (numbers_of other) n ≡ true → has (numbers_of new) n ≡ false
not_taken old new other before after kept stands apart n there = elim (cases_Bool (has (numbers_of new) n)) [
  | inl taken ↦ clash (is_some (before n)) (used_at (numbers_of other) before n stands.used there) (none_false (before n) (kept.taken n (apart n there) taken))
  | inr lacks ↦ lacks
]

-- its lists are as they were
same_lists : (old new other : RepoFields) (before after : VersionLists) → KeepsOthers (numbers_of old) before (numbers_of new) after → HasNumbersIn other before → AreApart other old
    → (n : ℕ) → has (numbers_of other) n ≡ true → after n ≡ before n
same_lists old new other before after kept stands apart n there = kept.others n (apart n there) (not_taken old new other before after kept stands apart n there)

pub still_apart : (old new other : RepoFields) (before after : VersionLists) → KeepsOthers (numbers_of old) before (numbers_of new) after → HasNumbersIn other before → AreApart other old → AreApart other new
still_apart old new other before after kept stands apart = not_taken old new other before after kept stands apart

pub stands_where : (other : RepoFields) (before after : VersionLists) → ((n : ℕ) → has (numbers_of other) n ≡ true → after n ≡ before n) → HasNumbersIn other before → HasNumbersIn other after
stands_where other before after same stands = record { used = used_by (numbers_of other) before after same stands.used; apart = stands.apart }

pub held_where : (other : RepoFields) (before after : VersionLists) → ((n : ℕ) → has (numbers_of other) n ≡ true → after n ≡ before n) → IsStored other before → IsStored other after
held_where other before after same held =
    let v : ℕ = other.index.version in
    record {
      indexed = indexed_same other.config other.index other.sets before after (same v (or_left (eqb v v) (has (versions_in other.table) v) (same_number v))) held.indexed;
      agrees = table_agrees_same other.table before after (λ n there. same n (or_right (eqb v n) (has (versions_in other.table) n) there)) held.agrees;
    }

pub still_stands : (old new other : RepoFields) (before after : VersionLists) → KeepsOthers (numbers_of old) before (numbers_of new) after → HasNumbersIn other before → AreApart other old → HasNumbersIn other after
still_stands old new other before after kept stands apart = stands_where other before after (same_lists old new other before after kept stands apart) stands

pub still_held : (old new other : RepoFields) (before after : VersionLists) → KeepsOthers (numbers_of old) before (numbers_of new) after → HasNumbersIn other before → AreApart other old → IsStored other before → IsStored other after
still_held old new other before after kept stands apart held = held_where other before after (same_lists old new other before after kept stands apart) held
