use Rattle.std.proofs.Common.{[], take}
use Rattle.oai_catalogue.specs.Store.{Spares}
use Rattle.oai_places.specs.Recounts.{Recounts}
use Rattle.oai_places.proofs.names.drop_numbers.Given as goal

-- the first so many are named once less
abbrev pub invariant-loop-number : goal.invariant-loop-number
invariant-loop-number g l = record {
  names : Recounts g.P.PagePool (take l.number-index l.numbers) [] l.initial.pages l.pages;
  pool : Spares g.P.PagePool.room g.P.PagePool.failures g.P.PagePool.honest l.initial.pages l.pages;
}
