-- All of the vector was written.
use Rattle.std.proofs.Common.{◌∙◌, rules}
use Rattle.oai_places.proofs.PutLemmas.{all_written}
use Rattle.oai_places.proofs.entry_bytes.entry_of.Goals as goal

pub returns-clause-entry : goal.returns-clause-entry
returns-clause-entry c = all_written c.in_ok-entry-in-Ok.entry.len c.write_entry.new.out c.in_ok-entry-in-Ok.entry.items (search rules) ∙ c.write_entry.ensures.entry
