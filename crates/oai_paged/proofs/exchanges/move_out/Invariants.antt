use Rattle.std.specs.Prelude.{◌≡◌, ◌≤◌, ◌+◌, ◌++◌, take, drop, vec_len, vec_capacity}
use Rattle.oai_paged.proofs.exchanges.move_out.Given as goal

abbrev pub invariant-moved : goal.invariant-moved
invariant-moved l =
    (l.places.items ≡ take l.at l.fn.places.items ++ drop (l.at + l.i) l.fn.places.items)
    × (l.others.items ≡ l.fn.others.items ++ take l.i (drop l.at l.fn.places.items))
    × (vec_len l.places + l.i ≡ vec_len l.fn.places) × (vec_len l.others ≡ vec_len l.fn.others + l.i)
    × (vec_capacity l.fn.places ≤ vec_capacity l.places) × (vec_capacity l.fn.others ≤ vec_capacity l.others)
