use Rattle.std.specs.Prelude.{◌≡◌, ◌≤◌, ◌+◌, ◌++◌, take, drop, vec_len, vec_capacity}
use Rattle.oai_paged.proofs.exchanges.move_in.Given as goal

abbrev pub invariant-others : goal.invariant-others
invariant-others l =
    (l.from ≤ vec_len l.others) × (vec_len l.places + vec_len l.others ≡ vec_len l.fn.places + vec_len l.fn.others)
    × (l.others.items ≡ take (vec_len l.others) l.fn.others.items)
    × (l.places.items ≡ take l.at l.fn.places.items ++ (drop (vec_len l.others) l.fn.others.items ++ drop l.at l.fn.places.items))
    × (vec_capacity l.fn.places ≤ vec_capacity l.places) × (vec_capacity l.fn.others ≤ vec_capacity l.others)

abbrev pub decreases-others : goal.decreases-others
decreases-others l = vec_len l.others
