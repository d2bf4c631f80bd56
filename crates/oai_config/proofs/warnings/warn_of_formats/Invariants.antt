use Rattle.std.proofs.Common.{◌≡◌, ◌++◌, take}
use Rattle.std.specs.List.{flat_map}
use Rattle.std.specs.String.{string_bytes}
use Rattle.oai_config.specs.Warnings.{format_warnings}
use Rattle.oai_config.proofs.warnings.warn_of_formats.Given as goal

-- what was appended are the warnings of the formats so far
abbrev pub invariant-loop-format : goal.invariant-loop-format
invariant-loop-format l = string_bytes l.out ≡ string_bytes l.fn.out ++ flat_map (format_warnings l.name) (take l.format-index l.formats)
