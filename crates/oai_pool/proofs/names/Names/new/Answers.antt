-- Of two empty lists there is nothing to count.
use Rattle.oai_pool.proofs.NamesLemmas.{nothing_listed}
use Rattle.oai_pool.proofs.names.Names.new.Goals as goal

pub invariant_of-result-clause-listed : goal.invariant_of-result-clause-listed
invariant_of-result-clause-listed c = nothing_listed c.new.result.items c.new-2.result.items c.new.ensures.items c.new-2.ensures.items
