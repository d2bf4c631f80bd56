use Rattle.oai_places.specs.Finding.{IsSought}
use Rattle.oai_places.proofs.finding.find_on_page.Given as goal

abbrev pub invariant-entries : goal.invariant-entries
invariant-entries l = IsSought l.key.stamp l.key.identifier.now l.page l.counter l.rest
