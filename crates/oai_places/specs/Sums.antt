-- Statistics of the items of consecutive leaves, and the groups of leaves that have them.
use Rattle.std.specs.Prelude.{◌≡◌, ◌+◌, ◌<◌, ◌≤◌, int_le, ◌<ℤ◌, ◌≤ℤ◌, ◌++◌, ℕ, ℤ, Bool, zero, suc, true, List, length, take, drop, is_some, sum_by, Option, None, Some, option_map}
use Rattle.std.specs.List.{AllByRecursion, list_all}
use Rattle.oai_item.specs.Selection.{Filter}
use Rattle.oai_names.specs.Names.{is_among}
use Rattle.oai_sums.specs.Sums.{SetTotal, counted_in}
use Rattle.oai_places.specs.Parts.{EndsBy, IsKnown}
use Rattle.oai_places.specs.Places.{PlaceState}

-- a sum: how many items there are, between which datestamps their leaves begin, prefixes with which each has a record,
-- and how many are in each set, if it is known
pub record SumState : Type 0 where
  pub items : ℕ
  pub least : ℤ
  pub greatest : ℤ
  pub prefixes : List (List ℕ)
  pub sets : Option (List SetTotal)

-- how many items are known to be in the set
abbrev pub counted_at : List ℕ → Option (List SetTotal) → ℕ
counted_at set None = 0
counted_at set (Some totals) = counted_in set totals

-- it is known of each leaf how many of its items are in each set, and together they are that many
pub record AreTotals (totals : List SetTotal) (places : List PlaceState) : Type 0 where
  pub known : list_all (λ (place : PlaceState). is_some place.sets) places ≡ true
  pub numbers : (set : List ℕ) → sum_by (λ (place : PlaceState). counted_at set place.sets) places ≡ counted_in set totals

-- each of the leaves has each of the prefixes
abbrev pub have_prefixes : List (List ℕ) → List PlaceState → Bool
have_prefixes prefixes places = list_all (λ prefix. list_all (λ (place : PlaceState). is_among place.prefixes prefix) places) prefixes

-- the sum is that of the leaves
pub record IsSum (sum : SumState) (places : List PlaceState) : Type 0 where
  pub items : sum_by (λ (place : PlaceState). place.len) places ≡ sum.items
  pub least : list_all (λ (place : PlaceState). int_le sum.least place.stamp) places ≡ true
  pub greatest : list_all (λ (place : PlaceState). int_le place.stamp sum.greatest) places ≡ true
  pub prefixes : have_prefixes sum.prefixes places ≡ true
  pub sets : (totals : List SetTotal) → sum.sets ≡ Some totals → AreTotals totals places

-- how many items are known to be in the set, if one is given
abbrev pub known_in_sum : SumState → Option (List ℕ) → Option ℕ
known_in_sum sum None = Some sum.items
known_in_sum sum (Some set) = option_map (counted_in set) sum.sets

-- each item that is in the set, if one is given, passes the filter, and comes after that datestamp and identifier; the
-- next leaves are these
pub record IsSumInside (sum : SumState) (next : List PlaceState) (asked : Filter) (stamp : ℤ) (identifier : List ℕ) : Type 0 where
  pub lower : asked.lower ≤ℤ sum.least
  pub behind : stamp <ℤ sum.least
  pub prefix : is_among sum.prefixes asked.prefix ≡ true
  pub greatest : sum.greatest ≤ℤ asked.upper
  pub upper : EndsBy next asked.upper

-- ---- groups

-- a group: the position of its first leaf, how many leaves there are, and their sum, if it is known
pub record GroupState : Type 0 where
  pub first : ℕ
  pub len : ℕ
  pub sum : Option SumState

-- what is known of the group is true
abbrev pub IsSoundGroup : List PlaceState → GroupState → Type 0
IsSoundGroup places group = (sum : SumState) → group.sum ≡ Some sum → IsSum sum (take group.len (drop group.first places))

-- what is known of the groups is true
abbrev pub AreGroups : List PlaceState → List GroupState → Type 0
AreGroups places groups = AllByRecursion (IsSoundGroup places) groups

-- that many leaves replaced those from `at` on
pub record AreReplaced (at len count : ℕ) (before after : List PlaceState) : Type 0 where
  pub added : List PlaceState
  pub many : length added ≡ count
  pub within : at + len ≤ length before
  pub is : after ≡ take at before ++ (added ++ drop (at + len) before)

-- of the items of that many leaves from `at` on, that many are known to pass the filter, and to come after that
-- datestamp and identifier
abbrev pub AreKnown : List PlaceState → Filter → ℤ → List ℕ → ℕ → ℕ → ℕ → Type 0
AreKnown places asked stamp identifier at zero n = n ≡ 0
AreKnown places asked stamp identifier at (suc len) n =
    (own : ℕ) × (rest : ℕ) × (n ≡ own + rest) × IsKnown places at asked stamp identifier own × AreKnown places asked stamp identifier (at + 1) len rest

-- some leaves from `at` on are skipped, of whose items that many are wanted
pub record IsStretch (places : List PlaceState) (asked : Filter) (stamp : ℤ) (identifier : List ℕ) (at len n : ℕ) : Type 0 where
  pub some : 0 < len
  pub within : at + len ≤ length places
  pub known : AreKnown places asked stamp identifier at len n
