use Rattle.std.proofs.Common.{◌≡◌, List, drop, length, take}
use Rattle.std.specs.List.{AllByRecursion}
use Rattle.oai_places.specs.Places.{PlaceState}
use Rattle.oai_places.specs.Sums.{AreGroups, AreReplaced, IsSoundGroup}
use Rattle.oai_places.proofs.groups.Groups.exchange.Given as goal

-- those so far are groups of the places after the exchange, the others of those before it
abbrev pub invariant-groups : goal.invariant-groups
invariant-groups l = record {
  many : length l.self-inside.groups.items ≡ length l.fn.self;
  groups : (before after : List PlaceState) → AreReplaced l.at l.len l.count before after → AreGroups before l.fn.self
      → AllByRecursion (IsSoundGroup after) (take l.near l.self-inside.groups.items) × AllByRecursion (IsSoundGroup before) (drop l.near l.self-inside.groups.items);
}
