use Rattle.oai_serving.specs.Links.{IsSent}
use Rattle.oai_serving.proofs.links.Link.write_all.Given as goal

abbrev pub invariant-loop : goal.invariant-loop
invariant-loop g l = IsSent g.S.Stream.contents g.S.Stream.remaining l.fn.self l.self
