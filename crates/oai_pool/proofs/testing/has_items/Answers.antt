use Rattle.std.proofs.lemmas.List.{take_rest}
use Rattle.oai_pool.proofs.TestingLemmas.{all_left, others_left}
use Rattle.oai_pool.proofs.testing.has_items.Goals as goal

pub entries-init : goal.entries-init
entries-init c = all_left c.args.page.now _ c.number_in-end.result c.number_in-end.ensures (take_rest c.args.page.now 4)

pub entries-preserved : goal.entries-preserved
entries-preserved c =
    others_left c.number_in-end.result c.entries.counter c.in-Some.len c.entries.rest.now _ _ c.entries-test.true (rw c.in-Some.is at c.in_ok-len.ensures)
    (take_rest c.entries.rest.now c.in-Some.len) c.entries.invariant
