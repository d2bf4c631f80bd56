use Rattle.std.specs.Prelude.{◌≡◌, vec_len, vec_capacity}
use Rattle.oai_blocks.proofs.ExchangeLemmas.{IsSwapped}
use Rattle.oai_blocks.proofs.exchanges.swap_all.Given as goal

abbrev pub invariant-swapped : goal.invariant-swapped
invariant-swapped g l =
    IsSwapped l.at l.i l.fn.items.items l.fn.others.items l.items.items l.others.items
    × (vec_len l.items ≡ vec_len l.fn.items) × (vec_len l.others ≡ vec_len l.fn.others)
    × (vec_capacity l.items ≡ vec_capacity l.fn.items) × (vec_capacity l.others ≡ vec_capacity l.fn.others)
