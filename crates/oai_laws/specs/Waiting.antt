-- What it means that a request has to wait. OAI-PMH 2.0, section 3.1.2.2 (the status 503); for how long is this
-- repository's own.
use Rattle.std.specs.Prelude.{◌≡◌, ◌⊎◌, ◌≤◌, ◌<◌, ◌≤ℤ◌, ◌<ℤ◌, ◌+ℤ◌, ℤ, pos, length, Some}
use Rattle.oai_lists.specs.declared.lists.TheConstants.{LAST_NUMBER}
use Rattle.oai_settings.specs.Config.{RepositoryConfig}
use Rattle.oai_repo.specs.Listing.{wait_at}
use Rattle.oai_repo.specs.State.{OpenLists, RepoState, still_open}

-- a request that has to wait that many seconds at a clock at which these lists are open: as many are open as may be, or
-- no number is left for a further one; the seconds are one or more; and if as many lists were open as may be, one of
-- them has ended after those seconds, and none within fewer
pub record IsWait (config : RepositoryConfig) (clock : ℤ) (open_lists : OpenLists) (seconds : ℤ) : Type 0 where
  pub reason : (config.lists ≤ length open_lists.lists) ⊎ (open_lists.next ≡ LAST_NUMBER)
  pub some : pos 1 ≤ℤ seconds
  pub helps : config.lists ≤ length open_lists.lists → length (still_open (clock +ℤ seconds) open_lists).lists < length open_lists.lists
  pub no_longer : (fewer : ℤ) → config.lists ≤ length open_lists.lists → fewer <ℤ seconds → (still_open (clock +ℤ fewer) open_lists).lists ≡ open_lists.lists

-- a command that has to wait in a state, with the state that it leaves: the seconds are those for which no further list
-- begins, and the state is unchanged
pub record IsRetriedLater (config : RepositoryConfig) (state : RepoState) (seconds : ℤ) (left : RepoState) : Type 0 where
  pub why : wait_at config state.clock state.open_lists ≡ Some seconds
  pub same : left ≡ state
