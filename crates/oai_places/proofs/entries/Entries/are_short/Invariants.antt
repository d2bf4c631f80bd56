use Rattle.std.proofs.Common.{◌≡◌, true, take}
use Rattle.oai_places.specs.Pages.{are_short}
use Rattle.oai_places.proofs.entries.Entries.are_short.Given as goal

-- those that were looked at are
abbrev pub invariant-loop-at : goal.invariant-loop-at
invariant-loop-at l = are_short (take l.at l.self) ≡ true
