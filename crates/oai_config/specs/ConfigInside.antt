-- What contracts see of the fields of a `Config`.
use Rattle.oai_config.specs.Configs.{HostConfig}
use Rattle.oai_config.specs.declared.config.Config.TheInside.{Inside}

-- the pages of its cache, and its repositories
abbrev pub host_config_in : Inside → HostConfig
host_config_in c = record { cache = c.cache; repositories = c.repositories }
