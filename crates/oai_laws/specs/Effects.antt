-- What a command can do to a state, and what holds of every state that commands lead to. This repository's own.
use Rattle.std.specs.Prelude.{◌≡◌, ◌≢◌, ◌≤◌, ℕ, ℤ, pos, ◌+ℤ◌, int_lt, Bool, true, false, ◌&&◌, not, List, [], ◌∷◌, ◌++◌, length, filter, Option, None, Some, is_some, nat_lt}
use Rattle.std.specs.List.{list_all}
use Rattle.oai_lists.specs.declared.lists.TheConstants.{LAST_NUMBER}
use Rattle.oai_item.specs.Formats.{format_named}
use Rattle.oai_item.specs.Item.{ItemState, tombstone_of}
use Rattle.oai_item.specs.Items.{item_named, without}
use Rattle.oai_item.specs.Known.{has_format, has_known_fields}
use Rattle.oai_item.specs.declared.deleted_record.DeletedRecord.TheVariants.{No, Transient}
use Rattle.oai_args.specs.Asks.{AskOrError, asks}
use Rattle.oai_args.specs.declared.requests.Ask.TheVariants as ask
use Rattle.oai_holdings.specs.Changes.{drops_format, is_one_too_many, set_refusal, stamp_at, with_new}
use Rattle.oai_settings.specs.Config.{RepositoryConfig}
use Rattle.oai_holdings.specs.Kept.{AreKept, is_well_kept}
use Rattle.oai_repo.specs.Listing.{wait_at, with_carried_on, with_new_list}
use Rattle.oai_holdings.specs.Holdings.{NamedSet}
use Rattle.oai_repo.specs.State.{FrozenList, RepoState}

-- ---- what is done to a state

-- nothing; an item replaces the one with its identifier, if there is one; the item with an identifier is removed,
-- without a tombstone; the tombstones below a limit are removed; a set is added as the last one; the open list with a
-- number is renewed, and a token with a cursor is handed out, if there is one; or a list is opened
pub data Effect : Type 0 where
  unchanged : Effect
  item_put : ItemState → Effect
  item_taken : List ℕ → Effect
  items_purged : ℤ → Effect
  set_added : NamedSet → Effect
  list_carried_on : ℕ → Option ℕ → Effect
  list_opened : FrozenList → Effect

-- the state with other items
abbrev pub holding : RepoState → List ItemState → RepoState
holding state items = record state { holdings = record state.holdings { items = items } }

-- the item is deleted, and its datestamp is below the limit
abbrev pub goes_below : ℤ → ItemState → Bool
goes_below limit item = not item.live && int_lt item.stamp limit

-- the state afterwards
abbrev pub effected : RepositoryConfig → RepoState → Effect → RepoState
effected config state unchanged = state
effected config state (item_put item) = holding state (with_new item state.holdings.items)
effected config state (item_taken identifier) = holding state (without identifier state.holdings.items)
effected config state (items_purged limit) = holding state (filter (λ item. not (goes_below limit item)) state.holdings.items)
effected config state (set_added set) = record state { holdings = record state.holdings { sets = state.holdings.sets ++ set ∷ [] } }
effected config state (list_carried_on number next) = record state { open_lists = with_carried_on config state.clock number next state.open_lists }
effected config state (list_opened list) = record state { open_lists = with_new_list list state.open_lists }

-- ---- when it can be done

-- the item is the tombstone of a live one with its identifier that is there: the same sets and prefixes, no fields, and
-- its own datestamp. There is no such item if the policy is to keep no deleted records (section 2.5.1)
pub record IsLeftOver (config : RepositoryConfig) (state : RepoState) (item : ItemState) : Type 0 where
  pub policy : config.deleted ≢ No
  pub before : ItemState
  pub there : item_named item.identifier state.holdings.items ≡ Some before
  pub lived : before.live ≡ true
  pub left : item ≡ tombstone_of item.stamp before

-- an item is put: it has the datestamp of the clock and satisfies the repository's invariants; it has a record in each
-- format in which the replaced item has one; if it replaces none there is room for it; and a deleted one is the
-- tombstone of a live one
pub record MayBePut (config : RepositoryConfig) (state : RepoState) (item : ItemState) : Type 0 where
  pub dated : item.stamp ≡ stamp_at config state.clock
  pub well : is_well_kept config state.holdings.sets item ≡ true
  pub formats : drops_format (item_named item.identifier state.holdings.items) item.formats ≡ false
  pub room : is_one_too_many config (item_named item.identifier state.holdings.items) (length state.holdings.items) ≡ false
  pub dead : item.live ≡ false → IsLeftOver config state item

-- each record of the item is in a format of the repository, and has no field but that format's or keeps an element of it, and behind that only elements
-- about it
abbrev pub has_known_records : RepositoryConfig → ItemState → Bool
has_known_records config item = list_all (has_format config.formats) item.formats && list_all (has_known_fields config.formats) item.formats

-- each item of the list's snapshot has only records that the repository can show
abbrev pub is_formed : RepositoryConfig → FrozenList → Bool
is_formed config list = list_all (has_known_records config) list.items

-- and the list is of a format of the repository
abbrev pub is_frozen_of_format : RepositoryConfig → FrozenList → Bool
is_frozen_of_format config list = is_some (format_named list.prefix config.formats)

-- a list is opened: nothing keeps it waiting, it gets the next number, it is open for its lifetime, and it satisfies
-- the above
pub record IsOpened (config : RepositoryConfig) (state : RepoState) (list : FrozenList) : Type 0 where
  pub admitted : wait_at config state.clock state.open_lists ≡ None
  pub number : list.number ≡ state.open_lists.next
  pub lasting : list.end ≡ state.clock +ℤ pos config.lifetime
  pub formed : is_formed config list ≡ true
  pub known : is_frozen_of_format config list ≡ true

-- it can be done. An item is removed without a tombstone only if the policy is to keep no deleted records (section
-- 2.5.1)
abbrev pub IsPossible : RepositoryConfig → RepoState → Effect → Type 0
IsPossible config state unchanged = Unit {0}
IsPossible config state (item_put item) = MayBePut config state item
IsPossible config state (item_taken identifier) = config.deleted ≡ No
IsPossible config state (items_purged limit) = config.deleted ≡ Transient
IsPossible config state (set_added set) = set_refusal state.holdings.sets set.0 ≡ None
IsPossible config state (list_carried_on number next) = Unit {0}
IsPossible config state (list_opened list) = IsOpened config state list

-- the second state is the first after something that can be done to it
pub record IsEffected (config : RepositoryConfig) (old new : RepoState) : Type 0 where
  pub effect : Effect
  pub possible : IsPossible config old effect
  pub done : new ≡ effected config old effect

-- ---- what no command does

-- the request neither begins a list nor continues one
abbrev pub is_of_no_list : AskOrError → Bool
is_of_no_list (asks (ask.List verb prefix from until set)) = false
is_of_no_list (asks (ask.Resume verb token)) = false
is_of_no_list request = true

-- ---- what holds of every state

-- the number of the list has been given: it is below that of the next
abbrev pub is_given : ℕ → FrozenList → Bool
is_given next list = nat_lt list.number next

-- the item is live
abbrev pub is_live : ItemState → Bool
is_live item = item.live

-- what is held satisfies a repository's invariants, without deleted items if the policy is to keep no deleted records
-- (section 2.5.1); each open list has a number that was given, items that the repository can show, and a format of the
-- repository; and the last number of 64 bits was not given
pub record IsSound (config : RepositoryConfig) (state : RepoState) : Type 0 where
  pub kept : AreKept config state.holdings
  pub live : config.deleted ≡ No → list_all is_live state.holdings.items ≡ true
  pub given : list_all (is_given state.open_lists.next) state.open_lists.lists ≡ true
  pub formed : list_all (is_formed config) state.open_lists.lists ≡ true
  pub known : list_all (is_frozen_of_format config) state.open_lists.lists ≡ true
  pub few : state.open_lists.next ≤ LAST_NUMBER
