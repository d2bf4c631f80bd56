use Rattle.oai_places.specs.Calls.{Evicts}
use Rattle.oai_places.proofs.names.forget_all.Given as goal

abbrev pub invariant-loop-number : goal.invariant-loop-number
invariant-loop-number g l = Evicts g.P.PagePool l.initial.pages l.pages
