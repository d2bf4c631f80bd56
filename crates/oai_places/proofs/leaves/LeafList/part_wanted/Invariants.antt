use Rattle.std.specs.Prelude.{◌≡◌, ◌≤◌, ◌-◌, ◌++◌, IsTrue, filter, length, drop, take}
use Rattle.oai_places.specs.Places.{is_wanted, items_on}
use Rattle.oai_places.proofs.HaveReadLemmas.{HaveRead}
use Rattle.oai_places.proofs.leaves.LeafList.part_wanted.Given as goal

abbrev pub invariant-places : goal.invariant-places
invariant-places g l =
    let P = g.P.PagePool in
    record {
      read : HaveRead P l.initial.pages l.pages;
      part : IsTrue (P.honest l.initial.pages) → l.part.items ++ take (l.most - length l.part.items)
          (drop l.left (filter (is_wanted l.wanted.filter.now l.wanted.key.stamp l.wanted.key.identifier.now) (items_on (P.pages l.initial.pages) (drop l.at l.places))))
          ≡ take l.most (drop l.skip (filter (is_wanted l.wanted.filter.now l.wanted.key.stamp l.wanted.key.identifier.now) (items_on (P.pages l.initial.pages) l.places)));
      within : l.at ≤ length l.places;
    }

abbrev pub decreases-places : goal.decreases-places
decreases-places g l = length l.places - l.at
