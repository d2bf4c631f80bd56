use Rattle.std.specs.Prelude.{◌≡◌, take, true}
use Rattle.std.specs.List.{list_all}
use Rattle.oai_places.specs.Parts.{IsPartTaken}
use Rattle.oai_places.specs.Places.{is_wanted}
use Rattle.oai_places.proofs.parts.take_all.Given as goal

abbrev pub invariant-entries : goal.invariant-entries
invariant-entries l =
    list_all (is_wanted l.portion.wanted.filter.now l.portion.wanted.key.stamp l.portion.wanted.key.identifier.now) l.entries ≡ true
    → IsPartTaken (is_wanted l.portion.wanted.filter.now l.portion.wanted.key.stamp l.portion.wanted.key.identifier.now) l.portion.most l.fn.part.items l.part.items l.portion.skip 0 (take l.at l.entries)
