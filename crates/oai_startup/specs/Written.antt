-- A configuration together with its text: this repository's own.
use Rattle.std.specs.Prelude.{ℕ, List}
use Rattle.oai_config.specs.Configs.{HostConfig}

-- the text, and the configuration that was read from it
pub record WrittenFields : Type 0 where
  pub text : List ℕ
  pub config : HostConfig
