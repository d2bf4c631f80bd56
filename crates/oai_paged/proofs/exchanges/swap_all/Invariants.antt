use Rattle.std.specs.Prelude.{◌≡◌, vec_len, vec_capacity}
use Rattle.oai_paged.proofs.ExchangeLemmas.{IsSwapped}
use Rattle.oai_paged.proofs.exchanges.swap_all.Given as goal

abbrev pub invariant-swapped : goal.invariant-swapped
invariant-swapped l =
    IsSwapped l.at l.i l.fn.places.items l.fn.others.items l.places.items l.others.items
    × (vec_len l.places ≡ vec_len l.fn.places) × (vec_len l.others ≡ vec_len l.fn.others)
    × (vec_capacity l.places ≡ vec_capacity l.fn.places) × (vec_capacity l.others ≡ vec_capacity l.fn.others)
