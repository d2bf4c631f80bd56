use Rattle.oai_places.proofs.TestedLemmas.{AreKnown}
use Rattle.oai_places.proofs.entry_bytes.ends_of.Given as goal

-- as many entries as were counted off stand in front, and it is known of the others
abbrev pub invariant-loop : goal.invariant-loop
invariant-loop l = AreKnown l.bytes l.ends.items l.count l.counter l.end
