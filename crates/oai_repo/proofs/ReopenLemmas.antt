-- A list that is put back: what its test says, and what is left where it failed.
use Rattle.std.proofs.Common.{◌≡◌, ℤ, Bool, true, ◌&&◌, Err}
use Rattle.std.specs.Prelude.{int_le, int_lt, is_some}
use Rattle.std.proofs.lemmas.Bool.{and_parts}
use Rattle.oai_time.specs.declared.text.TheConstants.{LAST_SECOND}
use Rattle.oai_item.specs.Formats.{format_named}
use Rattle.oai_lists.specs.OpenLists.{IsReopening, Table, may_reopen}
use Rattle.oai_lists.specs.declared.lists.ReopenFault.{ReopenFault}
use Rattle.oai_lists.specs.declared.lists.ReopenFault.TheVariants as reopen
use Rattle.oai_lists.specs.declared.open_lists.OpenList.{OpenList}
use Rattle.oai_settings.specs.Config.{RepositoryConfig}
use Rattle.oai_repo.specs.Saved.{SavedListState, may_have_list}

three_of : (a b c d : Bool) → (a && b && c && d) ≡ true → (b ≡ true) × (c ≡ true) × (d ≡ true)
three_of a b c d h =
    let last = and_parts (a && b && c) d h in
    let third = and_parts (a && b) c last.0 in
    ((and_parts a b third.0).1, third.1, last.1)

-- the repository has its format, and its end is above the clock and can be written
pub may_parts : (config : RepositoryConfig) (clock : ℤ) (table : Table) (list : SavedListState) → may_have_list config clock table list ≡ true
    → (is_some (format_named list.filter.prefix config.formats) ≡ true) × (int_lt clock list.end ≡ true) × (int_le list.end LAST_SECOND ≡ true)
may_parts config clock table list h =
    three_of (may_reopen table list.number) (is_some (format_named list.filter.prefix config.formats)) (int_lt clock list.end) (int_le list.end LAST_SECOND) h

pub reopening_failed : (table : Table) (list : OpenList) (fault : ReopenFault) (new : Table) → IsReopening table list (Err fault) new → new ≡ table
reopening_failed table list reopen.OutOfOrder new failed = failed.1
reopening_failed table list reopen.NoMemory new failed = failed.1
