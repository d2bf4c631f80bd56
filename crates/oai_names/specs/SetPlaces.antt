-- Where a set stands among the sets of a repository: this index's own.
use Rattle.std.specs.Prelude.{◌≡◌, ℕ, false, List, Option, None, Some}
use Rattle.std.specs.List.{slice_get}
use Rattle.std.specs.Option.{option_map}
use Rattle.oai_names.specs.Sets.{has_set}

-- the setSpec of the set at that place, if there is one
abbrev pub spec_at : List (List ℕ × List ℕ) → ℕ → Option (List ℕ)
spec_at sets place = option_map (λ (set : List ℕ × List ℕ). set.0) (slice_get sets place)

-- the set at the place has this setSpec; without a place, none has
abbrev pub IsSetPlace : List (List ℕ × List ℕ) → List ℕ → Option ℕ → Type 0
IsSetPlace sets spec None = has_set sets spec ≡ false
IsSetPlace sets spec (Some place) = spec_at sets place ≡ Some spec
