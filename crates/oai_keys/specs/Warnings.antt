-- Warnings: into which repositories deposits are open. The text is this repository's own.
use Rattle.std.specs.Prelude.{ℕ, if◌then◌else◌, List, [], ◌++◌, codes}
use Rattle.std.specs.List.{flat_map}
use Rattle.oai_config.specs.Configs.{HostConfig, NamedConfig}
use Rattle.oai_keys.specs.declared.rings.Ring.{Ring}
use Rattle.oai_keys.specs.Reading.{has_ring}

-- the line about a repository without keys
unfoldable pub open_warning : List ℕ → List ℕ
open_warning name = codes "warning: repository " ++ name ++ codes ": deposits are open\n"

-- none of one that has a ring
abbrev pub warning_of : List Ring → List ℕ → List ℕ
warning_of rings name = if has_ring rings name then [] else open_warning name

-- of the repositories of a configuration, in their order
abbrev pub open_warnings : List Ring → HostConfig → List ℕ
open_warnings rings config = flat_map (λ (entry : NamedConfig). warning_of rings entry.name) config.repositories
