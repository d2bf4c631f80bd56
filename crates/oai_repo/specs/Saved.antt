-- The parts of a repository's state, and the state that they make when they are restored one after the other. This
-- repository's own.
use Rattle.std.specs.Prelude.{ℕ, ℤ, ◌+◌, int_le, int_lt, Bool, false, ◌==◌, ◌&&◌, List, [], ◌∷◌, ◌++◌, length, map, None, is_some}
use Rattle.oai_names.specs.declared.list_verbs.ListVerb.{ListVerb}
use Rattle.oai_time.specs.declared.text.TheConstants.{LAST_SECOND}
use Rattle.oai_item.specs.Formats.{format_named}
use Rattle.oai_item.specs.Item.{ItemState}
use Rattle.oai_item.specs.Items.{without}
use Rattle.oai_item.specs.Selection.{Filter, selected}
use Rattle.oai_lists.specs.OpenLists.{Table, may_reopen}
use Rattle.oai_lists.specs.declared.open_lists.OpenList.{OpenList}
use Rattle.oai_holdings.specs.Changes.{with_new}
use Rattle.oai_holdings.specs.Saved.{has_element, may_go, may_have_item, may_have_set}
use Rattle.oai_repo.specs.Fields.{RepoFields}
use Rattle.oai_holdings.specs.Holdings.{NamedSet}
use Rattle.oai_repo.specs.State.{FrozenList, OpenLists, RepoState}
use Rattle.oai_repo.specs.declared.saved_parts.SavedList.{SavedList}
use Rattle.oai_repo.specs.declared.saved_parts.SavedPart.{SavedPart}
use Rattle.oai_repo.specs.declared.saved_parts.SavedPart.TheVariants.{Begins, HasSet, HasItem, Goes, HasList}
use Rattle.oai_settings.specs.Config.{RepositoryConfig, is_in_years}

-- ---- the parts of a state

-- an open list as it is saved: without its items, which its filter selects of those that are held where it is restored
pub record SavedListState : Type 0 where
  pub number : ℕ
  pub verb : ListVerb
  pub filter : Filter
  pub end : ℤ
  pub given : ℕ

-- a part: the clock, in seconds from 1970 on, and the number of the next list; or a set; or an item that comes; or the
-- identifier of an item that goes; or an open list
pub data SavedPartState : Type 0 where
  has_clock : ℤ → ℕ → SavedPartState
  has_named_set : NamedSet → SavedPartState
  has_item : ItemState → SavedPartState
  has_gone : List ℕ → SavedPartState
  has_list : SavedListState → SavedPartState

-- the list that is to be restored
abbrev pub list_state : SavedList → SavedListState
list_state list = record { number = list.number; verb = list.verb; filter = list.filter.now; end = list.end; given = list.given }

-- the part that is to be restored
abbrev pub part_state : SavedPart → SavedPartState
part_state (Begins clock next) = has_clock clock next
part_state (HasSet spec name) = has_named_set (spec.now, name.now)
part_state (HasItem item) = has_item item.now
part_state (Goes identifier) = has_gone identifier.now
part_state (HasList list) = has_list (list_state list)

-- the part is an item with elements
abbrev pub is_with_element : SavedPartState → Bool
is_with_element (has_clock clock next) = false
is_with_element (has_named_set set) = false
is_with_element (has_item item) = has_element item
is_with_element (has_gone identifier) = false
is_with_element (has_list list) = false

-- the parts of a state whose lists have ended: the sets in order of addition, and the items in their order
abbrev pub parts_of : RepoState → List SavedPartState
parts_of state =
    has_clock state.clock state.open_lists.next
    ∷ (map has_named_set state.holdings.sets ++ map has_item state.holdings.items)

-- the state with no list open, and the number of the next list raised by that much
abbrev pub ended : ℕ → RepoState → RepoState
ended raise state = record state { open_lists = record { lists = []; next = state.open_lists.next + raise } }

-- ---- the state that they make

-- the open list, if it began when these items were held
abbrev pub begun_list : SavedListState → List ItemState → FrozenList
begun_list saved items = record {
  number = saved.number;
  verb = saved.verb;
  prefix = saved.filter.prefix;
  items = selected saved.filter items;
  end = saved.end;
  given = saved.given;
}

-- the open lists with that one behind the others
abbrev pub with_begun : OpenLists → FrozenList → OpenLists
with_begun open_lists list = record open_lists { lists = open_lists.lists ++ list ∷ [] }

-- a state after a part was restored
abbrev pub with_part : RepoState → SavedPartState → RepoState
with_part state (has_clock clock next) = record state { clock = clock; open_lists = record { lists = []; next = next } }
with_part state (has_named_set set) = record state { holdings = record state.holdings { sets = state.holdings.sets ++ set ∷ [] } }
with_part state (has_item item) = record state { holdings = record state.holdings { items = with_new item state.holdings.items } }
with_part state (has_gone identifier) = record state { holdings = record state.holdings { items = without identifier state.holdings.items } }
with_part state (has_list list) = record state { open_lists = with_begun state.open_lists (begun_list list state.holdings.items) }

-- parts restored one after the other
abbrev pub with_parts : RepoState → List SavedPartState → RepoState
with_parts state [] = state
with_parts state (part ∷ parts) = with_parts (with_part state part) parts

-- ---- which part can be restored

-- a repository may begin at a clock in the years 0001 to 9998, if no list is held
abbrev pub may_begin : Table → ℤ → Bool
may_begin table clock = length table.lists == 0 && is_in_years clock

-- a list may be open whose number is above those of the lists that are held and below the next one, which is of a format
-- of the repository, and whose end is above the clock and can be written
abbrev pub may_have_list : RepositoryConfig → ℤ → Table → SavedListState → Bool
may_have_list config clock table list =
    may_reopen table list.number
    && is_some (format_named list.filter.prefix config.formats)
    && int_lt clock list.end && int_le list.end LAST_SECOND

-- the list as the table has it, with that copy of its filter, of that version and that many records: it has no mark
abbrev pub reopened_list : SavedListState → Filter → ℕ → ℕ → OpenList
reopened_list list filter version size = record {
  number = list.number;
  verb = list.verb;
  filter = filter;
  version = version;
  size = size;
  end = list.end;
  given = list.given;
  mark = None;
}

-- the part can be restored after what is there
abbrev pub is_restorable : RepoFields → SavedPartState → Bool
is_restorable held (has_clock clock next) = may_begin held.table clock
is_restorable held (has_named_set set) = may_have_set held.sets set.0
is_restorable held (has_item item) = may_have_item held.config held.sets (length held.index.entries) item
is_restorable held (has_gone identifier) = may_go held.index.entries identifier
is_restorable held (has_list list) = may_have_list held.config held.clock held.table list
