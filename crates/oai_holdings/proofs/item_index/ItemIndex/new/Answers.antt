-- No datestamps are all in range.
use Rattle.oai_holdings.proofs.IndexLemmas.{dated_none}
use Rattle.oai_holdings.proofs.item_index.ItemIndex.new.Goals as goal

pub invariant_of-result : goal.invariant_of-result
invariant_of-result c = rw c.new.ensures.empty dated_none
