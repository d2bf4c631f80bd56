use Rattle.std.proofs.Common.{◌≡◌, take}
use Rattle.oai_places.proofs.groups.Groups.try_copy.Given as goal

abbrev pub invariant-groups : goal.invariant-groups
invariant-groups l = l.groups.items ≡ take l.at l.self
