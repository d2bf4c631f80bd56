use Rattle.std.proofs.Common.{◌≡◌, true}
use Rattle.oai_places.specs.Sums.{have_prefixes}
use Rattle.oai_places.proofs.sums.prefixes_of.Given as goal

abbrev pub invariant-prefixes : goal.invariant-prefixes
invariant-prefixes l = have_prefixes l.prefixes.items l.places ≡ true
