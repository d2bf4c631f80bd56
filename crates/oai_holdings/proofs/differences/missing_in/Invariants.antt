use Rattle.std.proofs.Common.{◌≡◌, ◌+◌, ◌≤◌, length}
use Rattle.std.specs.Vec.Iter.{into_iter_items, into_iter_len}
use Rattle.oai_holdings.proofs.MissingLemmas.{IsSoFar}
use Rattle.oai_holdings.proofs.differences.missing_in.Given as goal

-- what was found so far, and what is left of both lists
abbrev pub invariant-loop-item : goal.invariant-loop-item
invariant-loop-item l =
    IsSoFar l.fn.items.items l.fn.others l.missing.items (into_iter_items l.item-iterator) l.left
    × (length l.missing.items + length (into_iter_items l.item-iterator) ≤ length l.fn.items.items)
    × (into_iter_len l.item-iterator ≡ length (into_iter_items l.item-iterator))
