-- The state of a repository, which is all that its answers depend on besides its configuration: this repository's own
-- view of OAI-PMH 2.0, sections 2.3 to 2.7.
use Rattle.std.specs.Prelude.{ℕ, ℤ, Bool, int_lt, List, [], filter}
use Rattle.oai_names.specs.declared.list_verbs.ListVerb.{ListVerb}
use Rattle.oai_time.specs.Clock.{tick}
use Rattle.oai_item.specs.Item.{ItemState}
use Rattle.oai_settings.specs.Config.{RepositoryConfig}
use Rattle.oai_holdings.specs.Holdings.{Holdings, no_holdings}

-- a list that was begun and that tokens continue (section 3.5): its number, the verb and the prefix of the request, a
-- snapshot of all items that were selected, the moment from which on it is no longer open, in seconds from 1970 on, and
-- the highest cursor that was handed out in a token
pub record FrozenList : Type 0 where
  pub number : ℕ
  pub verb : ListVerb
  pub prefix : List ℕ
  pub items : List ItemState
  pub end : ℤ
  pub given : ℕ

-- the lists that are open, in the order in which they were begun, and the number of the next
pub record OpenLists : Type 0 where
  pub lists : List FrozenList
  pub next : ℕ

-- the clock, in seconds from 1970 on, what the repository holds, and its open lists
pub record RepoState : Type 0 where
  pub clock : ℤ
  pub holdings : Holdings
  pub open_lists : OpenLists

-- no list is open, and the first gets the number 1
abbrev pub no_open_lists : OpenLists
no_open_lists = record { lists = []; next = 1 }

-- the initial state of a repository: the clock at the earliestDatestamp
abbrev pub empty_state : RepositoryConfig → RepoState
empty_state config = record { clock = config.earliest; holdings = no_holdings; open_lists = no_open_lists }

-- a list is open exactly while its end is above the clock
abbrev pub is_open_at : ℤ → FrozenList → Bool
is_open_at clock list = int_lt clock list.end

-- those of the lists that are open at that clock
abbrev pub still_open : ℤ → OpenLists → OpenLists
still_open clock open_lists = record open_lists { lists = filter (is_open_at clock) open_lists.lists }

-- the state at that clock, at which lists may have ended
abbrev pub state_at_clock : ℤ → RepoState → RepoState
state_at_clock clock state = record state { clock = clock; open_lists = still_open clock state.open_lists }

-- the state as a command at that moment finds it
abbrev pub moved : ℤ → RepoState → RepoState
moved moment state = state_at_clock (tick state.clock moment) state
