use Rattle.std.specs.Prelude.{◌≡◌, ◌≤◌, filter, length, take}
use Rattle.oai_places.specs.Places.{is_wanted}
use Rattle.oai_places.proofs.counts.count_in.Given as goal

abbrev pub invariant-entries : goal.invariant-entries
invariant-entries l =
    (l.count ≡ length (filter (is_wanted l.wanted.filter.now l.wanted.key.stamp l.wanted.key.identifier.now) (take l.at l.entries))) × (l.count ≤ l.at)
