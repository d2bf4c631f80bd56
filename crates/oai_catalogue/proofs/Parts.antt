-- Parts of a selection, as a loop along the items finds them.
use Rattle.std.proofs.Common.{◌≡◌, ◌∙◌, ℕ, ◌+◌, ◌-◌, ◌<◌, suc, zero, Bool, true, false, List, [], ◌∷◌, length, take, drop, get_or, refl, ap, arith}
use Rattle.std.specs.Prelude.{filter}
use Rattle.std.proofs.lemmas.Bool.{cond-true, cond-false}
use Rattle.std.proofs.lemmas.List.{drop_more}
use Rattle.oai_item.specs.Item.{ItemState}

-- what is still to come of a part: of those that pass, after so many, at most so many
abbrev pub to_come : (ItemState → Bool) → ℕ → ℕ → List ItemState → List ItemState
to_come p before left items = take left (drop before (filter p items))

-- at the element i, one that fails
pub fails-next : (p : ItemState → Bool) (before left : ℕ) (items : List ItemState) (i : ℕ) (d : ItemState) → i < length items → p (get_or items i d) ≡ false
    → to_come p before left (drop i items) ≡ to_come p before left (drop (i + 1) items)
fails-next p before left items i d within fails =
    let x : ItemState = get_or items i d in
    ap (to_come p before left) (drop_more items i d within) ∙ ap (λ ys. take left (drop before ys)) (cond-false (p x) (x ∷ filter p (drop (i + 1) items)) (filter p (drop (i + 1) items)) fails)

-- one that passes and is passed over
pub over-next : (p : ItemState → Bool) (before left : ℕ) (items : List ItemState) (i : ℕ) (d : ItemState) → i < length items → p (get_or items i d) ≡ true → 0 < before
    → to_come p before left (drop i items) ≡ to_come p (before - 1) left (drop (i + 1) items)
over-next p before left items i d within passes some =
    let x : ItemState = get_or items i d in
    let n : before ≡ suc (before - 1) = omega arith in
    ap (to_come p before left) (drop_more items i d within)
    ∙ ap (λ ys. take left (drop before ys)) (cond-true (p x) (x ∷ filter p (drop (i + 1) items)) (filter p (drop (i + 1) items)) passes)
    ∙ ap (λ m. take left (drop m (x ∷ filter p (drop (i + 1) items)))) n

taken_first : (p : ItemState → Bool) (left : ℕ) (items : List ItemState) (i : ℕ) (d : ItemState) → i < length items → p (get_or items i d) ≡ true → 0 < left
    → to_come p 0 left (drop i items) ≡ get_or items i d ∷ to_come p 0 (left - 1) (drop (i + 1) items)
taken_first p left items i d within passes some =
    let x : ItemState = get_or items i d in
    let n : left ≡ suc (left - 1) = omega arith in
    ap (to_come p 0 left) (drop_more items i d within)
    ∙ ap (λ ys. take left ys) (cond-true (p x) (x ∷ filter p (drop (i + 1) items)) (filter p (drop (i + 1) items)) passes)
    ∙ ap (λ m. take m (x ∷ filter p (drop (i + 1) items))) n

-- one that passes and is taken
pub taken-next : (p : ItemState → Bool) (before left : ℕ) (items : List ItemState) (i : ℕ) (d : ItemState) → i < length items → p (get_or items i d) ≡ true → before ≡ 0 → 0 < left
    → to_come p before left (drop i items) ≡ get_or items i d ∷ to_come p before (left - 1) (drop (i + 1) items)
taken-next p before left items i d within passes none some = rw none (taken_first p left items i d within passes some)

none_before : (n : ℕ) → drop {A = ItemState} n [] ≡ []
none_before zero = refl
none_before (suc n) = refl

none_taken : (n : ℕ) → take {A = ItemState} n [] ≡ []
none_taken zero = refl
none_taken (suc n) = refl

-- of no items nothing is to come
pub nothing : (p : ItemState → Bool) (before left : ℕ) → to_come p before left [] ≡ []
nothing p before left = ap (λ ys. take left ys) (none_before before) ∙ none_taken left
