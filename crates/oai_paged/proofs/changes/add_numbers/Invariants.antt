use Rattle.std.proofs.Common.{◌≡◌, ◌+◌, ◌≤◌, take, vec_capacity, vec_len}
use Rattle.oai_catalogue.specs.Store.{Spends}
use Rattle.oai_places.specs.Pages.{between, pages_of}
use Rattle.oai_places.specs.Recounts.{AddsNumbers}
use Rattle.oai_places.proofs.SpendingLemmas.{ok_of}
use Rattle.oai_paged.proofs.changes.add_numbers.Given as goal

-- the first so many pages were added
abbrev pub invariant-loop-at : goal.invariant-loop-at
invariant-loop-at g l = record {
  added : AddsNumbers g.P.PagePool (take l.at (pages_of (between l.range.from l.range.to l.range.entries.now))) l.numbers.items l.initial.pages l.pages;
  taken : Spends g.P.PagePool.room g.P.PagePool.failures g.P.PagePool.honest l.at (ok_of l.at) l.initial.pages l.pages;
  len : vec_len l.numbers ≡ l.at;
  room : 1 + l.overflow ≤ vec_capacity l.numbers;
}
