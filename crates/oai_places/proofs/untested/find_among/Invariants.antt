use Rattle.oai_places.specs.Finding.{IsSoughtBehind}
use Rattle.oai_places.proofs.untested.find_among.Given as goal

abbrev pub invariant-entries : goal.invariant-entries
invariant-entries l = IsSoughtBehind l.key.stamp l.key.identifier.now l.page l.counter l.rest
