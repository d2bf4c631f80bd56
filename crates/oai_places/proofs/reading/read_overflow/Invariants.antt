use Rattle.std.proofs.Common.{◌≡◌, ◌++◌, ◌≤◌, IsTrue, length, take}
use Rattle.std.specs.List.{flat_map}
use Rattle.oai_places.specs.Places.{page_at}
use Rattle.oai_places.proofs.HaveReadLemmas.{HaveRead}
use Rattle.oai_places.proofs.reading.read_overflow.Given as goal

-- the bytes of the first so many pages were added
abbrev pub invariant-loop-at : goal.invariant-loop-at
invariant-loop-at g l =
    let P = g.P.PagePool in
    record {
      read : HaveRead P l.initial.pages l.pages;
      bytes : IsTrue (P.honest l.initial.pages) → l.bytes.items ≡ l.initial.bytes.items ++ flat_map (page_at (P.pages l.initial.pages)) (take l.at l.numbers);
      more : length l.initial.bytes.items ≤ length l.bytes.items;
    }
