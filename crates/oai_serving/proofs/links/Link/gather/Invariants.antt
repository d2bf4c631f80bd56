use Rattle.std.proofs.Common.{◌≡◌}
use Rattle.oai_serving.proofs.links.Link.gather.Given as goal

abbrev pub invariant-loop : goal.invariant-loop
invariant-loop g l = l.self ≡ l.fn.self
