-- The open lists of a repository after its calls: this repository's own.
use Rattle.std.specs.Prelude.{◌≡◌, ◌⊎◌, ◌<◌, ◌≤◌, ℕ, ℤ, int_le, Bool, true, List, ◌∷◌, find, length, Option, None, Some, IsSome, is_some, if◌then◌else◌}
use Rattle.oai_time.specs.declared.text.TheConstants.{LAST_SECOND}
use Rattle.std.specs.List.{list_all}
use Rattle.std.specs.Option.{option_map}
use Rattle.oai_catalogue.specs.Store.{VersionLists, list_at, without_list}
use Rattle.oai_item.specs.Formats.{format_named}
use Rattle.oai_item.specs.Item.{ItemState}
use Rattle.oai_names.specs.declared.list_verbs.ListVerb.{ListVerb}
use Rattle.oai_lists.specs.OpenLists.{Table, has_ended, kept_open, open_numbered, open_ones, with_change, with_opened, without_ended}
use Rattle.oai_lists.specs.declared.tokens.Token.{Token}
use Rattle.oai_lists.specs.declared.open_lists.Mark.{Mark}
use Rattle.oai_lists.specs.declared.open_lists.OpenList.{OpenList}
use Rattle.oai_settings.specs.Config.{RepositoryConfig, is_in_years}
use Rattle.oai_holdings.specs.Entries.{IndexEntries}
use Rattle.oai_repo.specs.Fields.{AreInUse, KeepsOthers, ends_at, versions_in}
use Rattle.oai_repo.specs.Listing.{is_continued}

-- ---- what has ended

-- the version of the first list that has ended
abbrev pub version_ended : ℤ → Table → Option ℕ
version_ended now table = option_map (λ (list : OpenList). list.version) (find (has_ended now) table.lists)

-- the lists without that one, if there is one
abbrev pub without_version : Option ℕ → VersionLists → VersionLists
without_version None lists = lists
without_version (Some v) lists = without_list v lists

-- ---- the invariant of a repository's table

-- the list's end can be written as a date
abbrev pub has_end : OpenList → Bool
has_end list = int_le list.end LAST_SECOND

-- the list is of a format of the repository
abbrev pub is_of_known_format : RepositoryConfig → OpenList → Bool
is_of_known_format config list = is_some (format_named list.filter.prefix config.formats)

-- at most as many lists may be open as the configuration says, each end can be written, and each list is of a format of
-- the repository
pub record IsKeptTable (config : RepositoryConfig) (table : Table) : Type 0 where
  pub limit : table.limit ≡ config.lists
  pub ends : list_all has_end table.lists ≡ true
  pub known : list_all (is_of_known_format config) table.lists ≡ true

-- the clock is in its years, there are no more entries than items may be, and the table satisfies its invariant
pub record IsRepo (config : RepositoryConfig) (clock : ℤ) (entries : IndexEntries) (table : Table) : Type 0 where
  pub dated : is_in_years clock ≡ true
  pub few : length entries ≤ config.items
  pub open_lists : IsKeptTable config table

-- ---- what a request leaves

-- the first list that has ended is gone
abbrev pub dropped_at : ℤ → Table → Table
dropped_at now table = record table { lists = without_ended now table.lists }

-- the mark is after these items, before the record `next`: the last of them has its datestamp and identifier
abbrev pub IsMarkBehind : List ItemState → ℕ → Mark → Type 0
IsMarkBehind items next mark = (mark.cursor ≡ next) × (ends_at mark.stamp mark.identifier items ≡ true)

-- what a request makes of the table at that moment: nothing; a part of a list that is open may have been answered; or a
-- list begins, with the next number, if fewer are open than may be
abbrev pub IsAskedTable : ℤ → Table → Table → Type 0
IsAskedTable now old new =
    (new ≡ old)
    ⊎ ((number : ℕ) × (end : ℤ) × (next : Option ℕ) × (mark : Option Mark) × IsSome (open_numbered number now old.lists)
    × (new ≡ record old { lists = with_change number (kept_open end next mark) old.lists }))
    ⊎ ((list : OpenList) × (list.number ≡ old.next) × (length (open_ones now old.lists) < old.limit)
    × (new ≡ with_opened old list))

-- no more lists are held than may be open
abbrev pub HoldsFew : Table → Type 0
HoldsFew table = length table.lists ≤ table.limit

-- what a request makes of the table, without the first list that has ended by then; so no more are held than may be
-- open, if no more were
pub record IsAskedOf (now : ℤ) (old new : Table) : Type 0 where
  pub made : Table
  pub asked : IsAskedTable now old made
  pub dropped : new ≡ dropped_at now made
  pub few : HoldsFew old → HoldsFew new

-- the table is one that a request makes, and satisfies its invariant, the numbers are in use, nothing of others has
-- changed, and the items are unchanged
pub record IsLeftOpen (config : RepositoryConfig) (now : ℤ) (v : ℕ) (old : Table) (before : VersionLists) (new : Table) (after : VersionLists) : Type 0 where
  pub asked : IsAskedTable now old new
  pub kept : IsKeptTable config new
  pub stands : AreInUse (v ∷ versions_in new) after
  pub others : KeepsOthers (v ∷ versions_in old) before (v ∷ versions_in new) after
  pub items : list_at after v ≡ list_at before v

-- what is left of the table and of the lists where an open list is put back: the table satisfies its invariant, the
-- numbers are in use, nothing of others has changed, and the items are unchanged
pub record IsPutBack (config : RepositoryConfig) (v : ℕ) (old : Table) (before : VersionLists) (new : Table) (after : VersionLists) : Type 0 where
  pub kept : IsKeptTable config new
  pub stands : AreInUse (v ∷ versions_in new) after
  pub others : KeepsOthers (v ∷ versions_in old) before (v ∷ versions_in new) after
  pub items : list_at after v ≡ list_at before v

-- ---- the list that a token continues

-- the list, if the token continues it by the verb
abbrev pub table_where : ℕ → ListVerb → Token → Option OpenList → Option (OpenList × ℕ)
table_where chunk verb token None = None
table_where chunk verb token (Some list) = if is_continued chunk verb token list.verb list.size list.given then Some (list, token.cursor) else None

-- the list of the table, and the cursor
abbrev pub table_continued : ℤ → ℕ → ListVerb → List OpenList → Option Token → Option (OpenList × ℕ)
table_continued now chunk verb lists None = None
table_continued now chunk verb lists (Some token) = table_where chunk verb token (open_numbered token.list now lists)
