use Rattle.std.proofs.Common.{◌≡◌, ◌++◌, take}
use Rattle.std.specs.List.{flat_map}
use Rattle.std.specs.String.{string_bytes}
use Rattle.oai_config.specs.Configs.{NamedConfig}
use Rattle.oai_keys.specs.Warnings.{warning_of}
use Rattle.oai_keys.proofs.warnings.write_warnings.Given as goal

-- what was appended are the warnings of the repositories so far
abbrev pub invariant-loop-entry : goal.invariant-loop-entry
invariant-loop-entry l =
    string_bytes l.out ≡ string_bytes l.fn.out ++ flat_map (λ (entry : NamedConfig). warning_of l.rings entry.name) (take l.entry-index l.config.repositories)
