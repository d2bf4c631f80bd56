use Rattle.std.proofs.Common.{◌≡◌, drop, length, take}
use Rattle.std.specs.List.{AllByRecursion}
use Rattle.oai_places.specs.Sums.{AreGroups, IsSoundGroup}
use Rattle.oai_places.proofs.groups.Groups.sum_up.Given as goal

abbrev pub invariant-groups : goal.invariant-groups
invariant-groups l = record {
  many : length l.self-inside.groups.items ≡ length l.fn.self;
  groups : AreGroups l.places l.fn.self → AllByRecursion (IsSoundGroup l.places) (take l.at l.self-inside.groups.items) × AllByRecursion (IsSoundGroup l.places) (drop l.at l.self-inside.groups.items);
}
