use Rattle.std.proofs.Common.{◌≡◌, true}
use Rattle.oai_places.specs.Pages.{between}
use Rattle.oai_places.specs.Places.{have_records}
use Rattle.oai_places.proofs.entries.Entries.prefixes.Given as goal

-- the items so far have a record of each
abbrev pub invariant-loop-at : goal.invariant-loop-at
invariant-loop-at l = have_records l.prefixes.items (between l.from l.at l.self) ≡ true
