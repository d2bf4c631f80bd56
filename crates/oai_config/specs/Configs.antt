-- The configuration of a host of many repositories, and its rules: all of it this repository's own.
use Rattle.std.specs.Prelude.{◌≡◌, ℕ, Bool, true, false, List, map, length}
use Rattle.std.specs.Int.{is_in_range}
use Rattle.std.specs.List.{list_all}
use Rattle.oai_item.specs.Rules.{has_repeat}
use Rattle.oai_settings.specs.Config.{RepositoryConfig, is_repository_name}

-- a repository: its name in the paths of requests, and its configuration
pub record NamedConfig : Type 0 where
  pub name : List ℕ
  pub config : RepositoryConfig

-- the capacity of the cache in pages, and the repositories in the order of the text
pub record HostConfig : Type 0 where
  pub cache : ℕ
  pub repositories : List NamedConfig

-- a capacity of a cache
abbrev pub is_cache : ℕ → Bool
is_cache n = is_in_range 1 65_536 n

-- the names of the repositories
abbrev pub repository_names : List NamedConfig → List (List ℕ)
repository_names repositories = map (λ entry. entry.name) repositories

-- each name is one that a repository may have, and they are distinct
pub record AreNamed (names : List (List ℕ)) : Type 0 where
  pub named : list_all is_repository_name names ≡ true
  pub distinct : has_repeat names ≡ false

-- the rules of a configuration: the capacity of the cache, and 1 to 1,000 repositories with such names
pub record IsHostConfig (config : HostConfig) : Type 0 where
  pub cached : is_cache config.cache ≡ true
  pub counted : is_in_range 1 1_000 (length config.repositories) ≡ true
  pub named : AreNamed (repository_names config.repositories)
