-- The arguments `from`, `until` and `set` of a list. OAI-PMH 2.0, sections 2.6, 2.7.1, 2.7.2 and 3.3.1.
use Rattle.std.specs.Prelude.{int_le, ℕ, Bool, true, false, ◌&&◌, List, Option, Some, None}
use Rattle.oai_names.specs.Sets.{is_set_spec}
use Rattle.oai_time.specs.Bound.{bound_of, is_no_finer_than}
use Rattle.oai_time.specs.declared.bound.Bound.{Bound}
use Rattle.oai_time.specs.declared.bound.Bound.TheVariants.{Day as WholeDay, Second as OneSecond}
use Rattle.oai_time.specs.declared.granularity.Granularity.{Granularity}

-- the set, if it is given, has the syntax of a setSpec
abbrev pub is_none_or_set_spec : Option (List ℕ) → Bool
is_none_or_set_spec None = true
is_none_or_set_spec (Some set) = is_set_spec set

-- there is a bound, and it is no finer than the granularity
abbrev pub is_some_bound : Granularity → Option Bound → Bool
is_some_bound granularity (Some bound) = is_no_finer_than bound granularity
is_some_bound granularity None = false

-- the argument, if it is given, is a bound, no finer than the granularity
abbrev pub is_none_or_bound : Granularity → Option (List ℕ) → Bool
is_none_or_bound granularity (Some text) = is_some_bound granularity (bound_of text)
is_none_or_bound granularity None = true

-- the bounds have one granularity, and the first is not after the second
abbrev pub is_not_after : Bound → Bound → Bool
is_not_after (WholeDay from) (WholeDay until) = int_le from until
is_not_after (OneSecond from) (OneSecond until) = int_le from until
is_not_after (WholeDay from) (OneSecond until) = false
is_not_after (OneSecond from) (WholeDay until) = false

-- the same, if there are two
abbrev pub are_not_turned : Option Bound → Option Bound → Bool
are_not_turned (Some from) (Some until) = is_not_after from until
are_not_turned (Some from) None = true
are_not_turned None until = true

-- the bound that an argument gives
abbrev pub given_bound : Option (List ℕ) → Option Bound
given_bound (Some text) = bound_of text
given_bound None = None

-- from and until, if they are given, are bounds, no finer than the granularity, and if both are given these have one
-- granularity, and `from` is not after `until`
unfoldable pub are_bounds : Granularity → Option (List ℕ) → Option (List ℕ) → Bool
are_bounds granularity from until =
    is_none_or_bound granularity from && is_none_or_bound granularity until
    && are_not_turned (given_bound from) (given_bound until)
