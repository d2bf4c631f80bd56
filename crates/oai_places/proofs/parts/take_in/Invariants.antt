use Rattle.std.specs.Prelude.{take}
use Rattle.oai_places.specs.Parts.{IsPartTaken}
use Rattle.oai_places.specs.Places.{is_wanted}
use Rattle.oai_places.proofs.parts.take_in.Given as goal

abbrev pub invariant-entries : goal.invariant-entries
invariant-entries l =
    IsPartTaken (is_wanted l.portion.wanted.filter.now l.portion.wanted.key.stamp l.portion.wanted.key.identifier.now) l.portion.most l.fn.part.items l.part.items l.portion.skip l.left (take l.at l.entries)
