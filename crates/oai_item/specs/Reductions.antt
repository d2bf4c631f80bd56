-- How the sets of an item are reduced and tested, step by step: words of private functions, on which no definition
-- rests.
use Rattle.std.specs.Prelude.{ℕ, Bool, true, ◌&&◌, ◌||◌, not, cond, List, [], ◌∷◌}
use Rattle.std.specs.BTreeSet.{BTreeSet, contains_by}
use Rattle.std.specs.Cmp.Lexicographic.{slice_cmp}
use Rattle.std.specs.Ordering.{nat_cmp}
use Rattle.std.specs.Str.{bytes_eq}
use denote.Ref.{Bor}

-- the text is one of the sorted set
abbrev pub holds : BTreeSet (Bor (List ℕ)) → List ℕ → Bool
holds texts text = contains_by (λ k. slice_cmp nat_cmp text k.now) texts

-- each of the texts is neither taken nor one of those before it
abbrev pub are_fresh : (List ℕ → Bool) → List (List ℕ) → Bool
are_fresh taken [] = true
are_fresh taken (text ∷ texts) = not (taken text) && are_fresh (λ q. bytes_eq q text || taken q) texts

-- the elements that stay, by a flag for each
abbrev pub flagged : {X : Type 0} → List Bool → List X → List X
flagged [] elements = []
flagged (stays ∷ flags) [] = []
flagged (stays ∷ flags) (element ∷ elements) =
    cond stays (element ∷ flagged flags elements) (flagged flags elements)
