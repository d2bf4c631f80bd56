-- The sets that an item is in, and the setSpecs that decide it. OAI-PMH 2.0, sections 2.6 and 2.7.2.
use Rattle.std.specs.Prelude.{◌≡◌, ◌≢◌, ℕ, Bool, true, false, ◌&&◌, not, List, [], ◌∷◌, Some, slice_get}
use Rattle.std.specs.List.{list_all, list_any, filter}
use Rattle.std.specs.Str.{bytes_eq}
use Rattle.oai_names.specs.Sets.{covers}

-- an item with these setSpecs is in the set s: one of them is s, or begins with s and a colon
unfoldable pub is_in : List ℕ → List (List ℕ) → Bool
is_in s sets = list_any (covers s) sets

-- the setSpec s covers the setSpec t, and is not equal to it
unfoldable pub is_above : List ℕ → List ℕ → Bool
is_above s t = covers s t && not (bytes_eq s t)

-- the texts without repetitions: the first of equal ones stays
unfoldable pub distinct : List (List ℕ) → List (List ℕ)
distinct [] = []
distinct (s ∷ sets) = s ∷ filter (λ t. not (bytes_eq s t)) (distinct sets)

-- the setSpecs without repetitions, and without any that covers another of them
unfoldable pub reduced : List (List ℕ) → List (List ℕ)
reduced sets = filter (λ s. not (list_any (is_above s) sets)) (distinct sets)

-- neither setSpec covers the other
abbrev pub neither_covers : List ℕ → List ℕ → Bool
neither_covers s t = not (covers s t) && not (covers t s)

-- none of the setSpecs covers another or occurs twice
abbrev pub none_covers : List (List ℕ) → Bool
none_covers [] = true
none_covers (s ∷ sets) = list_all (neither_covers s) sets && none_covers sets

-- of two setSpecs at different positions neither covers the other
abbrev pub NoneCovers : List (List ℕ) → Type 0
NoneCovers sets = (i j : ℕ) (s t : List ℕ)
    → slice_get sets i ≡ Some s → slice_get sets j ≡ Some t → i ≢ j → covers s t ≡ false
