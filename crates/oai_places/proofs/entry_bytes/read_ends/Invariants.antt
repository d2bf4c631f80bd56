use Rattle.oai_places.specs.Entries.{HasEntries}
use Rattle.oai_places.proofs.entry_bytes.read_ends.Given as goal

-- as many entries as were counted off stand in front
abbrev pub invariant-loop : goal.invariant-loop
invariant-loop l = HasEntries l.bytes l.ends.items l.counter l.end
