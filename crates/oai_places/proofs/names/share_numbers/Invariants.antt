use Rattle.std.proofs.Common.{[], take}
use Rattle.oai_catalogue.specs.Store.{Spares}
use Rattle.oai_places.specs.Recounts.{Recounts}
use Rattle.oai_places.proofs.names.share_numbers.Given as goal

-- the first so many are named once more
abbrev pub invariant-loop-at : goal.invariant-loop-at
invariant-loop-at g l = record {
  names : Recounts g.P.PagePool [] (take l.at l.numbers) l.initial.pages l.pages;
  pool : Spares g.P.PagePool.room g.P.PagePool.failures g.P.PagePool.honest l.initial.pages l.pages;
}
