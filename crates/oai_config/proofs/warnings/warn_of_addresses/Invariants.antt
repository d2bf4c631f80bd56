use Rattle.std.proofs.Common.{◌≡◌, ◌++◌, take}
use Rattle.std.specs.List.{flat_map}
use Rattle.std.specs.String.{string_bytes}
use Rattle.oai_config.specs.Warnings.{address_warning}
use Rattle.oai_config.proofs.warnings.warn_of_addresses.Given as goal

-- what was appended are the warnings of the addresses so far
abbrev pub invariant-loop-address : goal.invariant-loop-address
invariant-loop-address l = string_bytes l.out ≡ string_bytes l.fn.out ++ flat_map (address_warning l.name) (take l.address-index l.addresses)
