use Rattle.std.specs.Prelude.{◌≡◌, ◌≤◌, ◌+◌, ◌++◌, List, reverse, vec_len, vec_capacity}
use Rattle.oai_blocks.proofs.exchanges.move_last.Given as goal

abbrev pub invariant-moved : goal.invariant-moved
invariant-moved g l =
    (moved : List g.row.T.Denot) × (l.fn.items.items ≡ l.items.items ++ moved) × (l.others.items ≡ l.fn.others.items ++ reverse moved)
    × (l.from ≤ vec_len l.items) × (vec_len l.items + vec_len l.others ≡ vec_len l.fn.items + vec_len l.fn.others)
    × (vec_capacity l.items ≡ vec_capacity l.fn.items) × (vec_capacity l.others ≡ vec_capacity l.fn.others)

abbrev pub decreases-moved : goal.decreases-moved
decreases-moved g l = vec_len l.items
