use Rattle.oai_serving.specs.Tables.{AreTurned}
use Rattle.oai_serving.proofs.tables.read_all.Given as goal

abbrev pub invariant-loop : goal.invariant-loop
invariant-loop g l = AreTurned g.H.Handler.step g.S.Stream.contents g.S.Stream.remaining l.time.moment l.fn.links l.fn.handler l.links l.handler
