use Rattle.std.proofs.Common.{◌∙◌, [], sym}
use Rattle.oai_places.proofs.EntryLemmas.{are_entries}
use Rattle.oai_places.proofs.PageLemmas.{entries_of-nil}
use Rattle.oai_places.proofs.entries.Entries.new.Goals as goal

pub invariant_of-result : goal.invariant_of-result
invariant_of-result c =
    (are_entries c.own.result c.new-2.result.items [] (c.own.ensures ∙ c.new.ensures.items ∙ sym entries_of-nil) c.new-2.ensures.items tt).1
