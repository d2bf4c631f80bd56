-- A host as it is made over the pages of a device: this repository's own.
use Rattle.std.specs.Prelude.{◌≡◌, ◌+◌, ◌≤◌, ℕ, Bool, List, [], length, map}
use Rattle.oai_config.specs.Configs.{HostConfig}
use Rattle.oai_host.specs.Hosts.{HostState, begun}
use Rattle.oai_paged.specs.Shelves.{calls_left}
use Rattle.oai_pool.specs.declared.pools.TheConstants.{MAX_PAGES}

-- for how many calls a store without pages has room
abbrev pub all_calls : ℕ
all_calls = calls_left MAX_PAGES []

-- a host that is made of the configuration over a device, which is that honest and has failed that often: each of its
-- repositories is in its initial state, and each uses up the room for at most one call
pub record IsBegunOn (config : HostConfig) (honest : Bool) (failures : ℕ) (host : HostState) : Type 0 where
  pub begun : host.repositories ≡ map begun config.repositories
  pub honesty : host.honest ≡ honest
  pub count : failures ≤ host.failures
  pub room : all_calls ≤ host.room + length config.repositories
