-- The rules that the repositories of an accepted configuration satisfy: those of the laws.
use Rattle.std.specs.List.{All}
use Rattle.oai_item.specs.Formats.{AreRepositoryFormats}
use Rattle.oai_settings.specs.Config.{IsConfig}
use Rattle.oai_config.specs.Configs.{HostConfig, NamedConfig}

-- the configuration of a repository satisfies its rules, and its metadata formats theirs
pub record HasRules (entry : NamedConfig) : Type 0 where
  pub rules : IsConfig entry.config
  pub formats : AreRepositoryFormats entry.config.formats

-- those of all repositories
abbrev pub HaveRules : HostConfig → Type 0
HaveRules config = All HasRules config.repositories
