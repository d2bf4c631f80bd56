use Rattle.std.proofs.Common.{◌≡◌, length}
use Rattle.std.specs.Vec.Iter.{into_iter_items, into_iter_len}
use Rattle.oai_catalogue.specs.Store.{Spares}
use Rattle.oai_places.specs.Places.{page_numbers}
use Rattle.oai_places.specs.Recounts.{Recounts}
use Rattle.oai_places.proofs.names.drop_all.Given as goal

-- the pages of all are named once less, but for those that are left
abbrev pub invariant-loop-place : goal.invariant-loop-place
invariant-loop-place g l = record {
  names : Recounts g.P.PagePool (page_numbers l.fn.places.items) (page_numbers (into_iter_items l.place-iterator)) l.initial.pages l.pages;
  pool : Spares g.P.PagePool.room g.P.PagePool.failures g.P.PagePool.honest l.initial.pages l.pages;
  left : into_iter_len l.place-iterator ≡ length (into_iter_items l.place-iterator);
}
