use Rattle.std.proofs.Common.{◌≡◌, ◌≤◌, [], length, take, vec_capacity, vec_len}
use Rattle.oai_catalogue.specs.Store.{Spares}
use Rattle.oai_places.specs.Places.{page_numbers}
use Rattle.oai_places.specs.Recounts.{Recounts}
use Rattle.oai_places.proofs.names.share_all.Given as goal

-- the first so many are copied, and their pages named once more
abbrev pub invariant-loop-at : goal.invariant-loop-at
invariant-loop-at g l = record {
  copies : l.copies.items ≡ take l.at l.places;
  names : Recounts g.P.PagePool [] (page_numbers (take l.at l.places)) l.initial.pages l.pages;
  pool : Spares g.P.PagePool.room g.P.PagePool.failures g.P.PagePool.honest l.initial.pages l.pages;
  len : vec_len l.copies ≡ l.at;
  room : length l.places ≤ vec_capacity l.copies;
}
