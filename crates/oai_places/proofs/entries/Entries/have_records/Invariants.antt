use Rattle.std.proofs.Common.{◌≡◌}
use Rattle.oai_places.specs.Pages.{between}
use Rattle.oai_places.specs.Places.{have_records}
use Rattle.oai_places.proofs.entries.Entries.have_records.Given as goal

-- whether the items so far have a record of each
abbrev pub invariant-loop-at : goal.invariant-loop-at
invariant-loop-at l = l.all ≡ have_records l.prefixes (between l.from l.at l.self)
