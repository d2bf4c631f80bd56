use Rattle.oai_places.specs.Sums.{AreGroups}
use Rattle.oai_places.proofs.groups.Groups.extend.Given as goal

abbrev pub invariant-groups : goal.invariant-groups
invariant-groups l = AreGroups l.places l.fn.self → AreGroups l.places l.self
