use Rattle.std.proofs.Common.{◌≡◌, ◌∷◌, length}
use Rattle.oai_item.specs.Item.{are_rising}
use Rattle.oai_item.proofs.in_place.are_rising.Given as goal

abbrev pub invariant-loop-format : goal.invariant-loop-format
invariant-loop-format l = are_rising ((l.before.prefix.now, l.before.fields) ∷ l.rest) ≡ are_rising l.records

abbrev pub decreases-loop-format : goal.decreases-loop-format
decreases-loop-format l = length l.rest
