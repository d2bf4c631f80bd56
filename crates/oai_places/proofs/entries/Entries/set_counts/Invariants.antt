use Rattle.oai_places.specs.Pages.{between}
use Rattle.oai_places.specs.Places.{AreCountedWithin}
use Rattle.oai_places.proofs.entries.Entries.set_counts.Given as goal

-- the items so far are counted, and stand where it says
abbrev pub invariant-loop-at : goal.invariant-loop-at
invariant-loop-at l = AreCountedWithin l.counts (between l.from l.at l.self)
