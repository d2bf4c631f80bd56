-- What contracts see of the fields of a `RepoConfig`.
use Rattle.oai_settings.specs.Config.{RepositoryConfig}
use Rattle.oai_settings.specs.declared.config.RepoConfig.TheInside.{Inside}

-- what Identify returns of a repository, its limits, its formats and their forms
abbrev pub config_in : Inside → RepositoryConfig
config_in c = record {
  base = c.base;
  repository_name = c.repository_name;
  addresses = c.addresses;
  earliest = c.earliest;
  deleted = c.deleted;
  granularity = c.granularity;
  chunk = c.limits.chunk;
  lifetime = c.limits.lifetime;
  lists = c.limits.lists;
  items = c.limits.items;
  formats = c.formats;
  forms = c.forms;
  descriptions = c.descriptions;
  set_descriptions = c.set_descriptions;
}
