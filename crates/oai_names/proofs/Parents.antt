-- The parent of a set: what `rsplit_once` at a colon gives, and that it stands before the set.
use Rattle.std.proofs.Common.{◌≡◌, ◌≢◌, ◌∙◌, ℕ, ◌+◌, ◌-◌, ◌<◌, ◌≤◌, true, false, not, List, [], ◌∷◌, ◌++◌, length, take, drop, get_or, None, Some, ◌⊎◌, inl, inr, refl, sym, ap, subst, arith, append_assoc, length-append, length-drop, lit<}
use Rattle.std.specs.List.{list_any, suffix_len}
use Rattle.std.specs.Str.{NoCharPasses}
use Rattle.std.specs.Str.Pattern.{RFindsChar}
use Rattle.std.proofs.lemmas.Bool.{cases_Bool, eqb-true, or_from, or_right, eq-eqb, ne_eqb, not_from_true, not_from_false, cond-true, cond-false, true≢false}
use Rattle.std.proofs.lemmas.List.Folds.{list_any-append, list_any_none, list_any_at}
use Rattle.std.proofs.lemmas.Option.{none-some, same_Some}
use Rattle.std.proofs.lemmas.List.Sums.{suffix_len_is}
use Rattle.std.proofs.lemmas.Str.{len_utf8_ascii}
use Rattle.std.proofs.lemmas.Str.Pattern.{NoCharPasses-char}
use Rattle.std.proofs.lemmas.List.{get_or-append_right, get_or-drop, get_or_at, get_or_default}
use Rattle.std.proofs.Math.Seq.{take-append_seam}
use Rattle.oai_names.specs.Names.{is_colon}
use Rattle.oai_names.specs.Sets.{HasParentsBefore, IsSetTree, is_none_or_has, parent_of}

-- the last colon stands at k
parent_at : (bs : List ℕ) (k : ℕ) → k < length bs → get_or bs k 0 ≡ 58 → ((i : ℕ) → k < i → i < length bs → get_or bs i 0 ≢ 58) → Some (take k bs) ≡ parent_of bs
unfolding parent_of
parent_at bs k inside here none =
    let after : suffix_len (λ b. not (is_colon b)) bs ≡ length bs - (k + 1) =
    suffix_len_is (λ b. not (is_colon b)) bs (k + 1) 0 (omega arith)
    (λ i low high. not_from_false _ (ne_eqb _ 58 (none i (omega arith) high)))
    (λ _. let back : k + 1 - 1 ≡ k = omega arith in not_from_true _ (eq-eqb _ 58 (ap (λ n. get_or bs n 0) back ∙ here))) in
    let cut : length bs - suffix_len (λ b. not (is_colon b)) bs - 1 ≡ k = omega arith in
    ap (λ n. Some (take n bs)) (sym cut) ∙ sym (cond-true _ _ _ (list_any_at is_colon bs k 0 inside (eq-eqb _ 58 here)))

pub parent_splits : (bs parent : List ℕ) (i j : ℕ) → RFindsChar 58 bs (Some (i, j)) → parent ≡ take i bs → i ≤ j → j ≤ length bs → Some parent ≡ parent_of bs
parent_splits bs parent i j found e order end =
    let width : j ≡ i + 1 = omega (arith, found.1.ends, len_utf8_ascii 58 (lit< tt)) in
    ap Some e ∙ parent_at bs i (omega arith) (found.1.byte (lit< tt)) (λ k low high.
    let back : j + (k - j) ≡ k = omega arith in
    λ here. NoCharPasses-char 58 (drop j bs) (k - j) found.0 (lit< tt) (omega (arith, length-drop j bs)) (get_or-drop j bs (k - j) 0 ∙ ap (λ n. get_or bs n 0) back ∙ here))

root_of : (bs : List ℕ) → list_any is_colon bs ≡ false → None ≡ parent_of bs
unfolding parent_of
root_of bs none = sym (cond-false _ _ _ none)

pub root_splits : (bs : List ℕ) → NoCharPasses (λ b. is_colon b) bs → None ≡ parent_of bs
unfolding parent_of
root_splits bs none =
    sym (cond-false _ _ _ (list_any_none is_colon bs (λ k d inside. ne_eqb _ 58 (λ e. NoCharPasses-char 58 bs k none (lit< tt) inside (get_or_default bs k 0 d inside ∙ e)))))

-- where the last part holds no colon, what stands before its colon is the parent
path_parent : (parent last : List ℕ) → list_any is_colon last ≡ false → Some parent ≡ parent_of (parent ++ 58 ∷ last)
path_parent parent last none =
    let spec : List ℕ = parent ++ 58 ∷ last in
    ap Some (sym (take-append_seam parent (58 ∷ last)))
    ∙ parent_at spec (length parent) (omega (arith, length-append parent (58 ∷ last))) (get_or_at parent 58 last 0 (length parent) refl) (λ i low high here.
    let seam : length (parent ++ 58 ∷ []) ≡ length parent + 1 = length-append parent (58 ∷ []) in
    let back : get_or last (i - (length parent + 1)) 0 ≡ 58 =
    sym (get_or-append_right (parent ++ 58 ∷ []) last (length parent + 1) i 0 seam (omega arith)) ∙ ap (λ bs. get_or bs i 0) (append_assoc parent (58 ∷ []) last) ∙ here in
    true≢false (sym (list_any_at is_colon last (i - (length parent + 1)) 0 (omega (arith, length-append parent (58 ∷ last))) (eq-eqb _ 58 back)) ∙ none))

pub parents_stand_before : (sets : List (List ℕ × List ℕ)) → IsSetTree sets → HasParentsBefore sets
parents_stand_before sets tree i parent last name at none =
    subst (λ p. is_none_or_has (take i sets) p ≡ true) (sym (path_parent parent last none)) (tree.parents i (parent ++ 58 ∷ last, name) at)

-- t is p, a colon, and something more
abbrev pub IsBelow : List ℕ → List ℕ → Type 0
IsBelow p t = (rest : List ℕ) × (t ≡ p ++ 58 ∷ rest)

-- a path holds no colon, or it is what stands before its last colon, that colon, and a last part
last_colon : (bs : List ℕ) → (list_any is_colon bs ≡ false) ⊎ ((parent : List ℕ) × (last : List ℕ) × (bs ≡ parent ++ 58 ∷ last) × (list_any is_colon last ≡ false))
last_colon [] = inl refl
last_colon (b ∷ bs) = elim (last_colon bs) [
  | inl none ↦ elim (cases_Bool (is_colon b)) [
    | inl here ↦ inr ([], bs, ap (λ c. c ∷ bs) (eqb-true b 58 here), none)
    | inr other ↦ inl (or_from _ _ other none)
  ]
  | inr w ↦ inr (b ∷ w.0, w.1, ap (λ cs. b ∷ cs) w.2, w.3)
]

-- a path lies below its parent
pub parent_splits_off : (path p : List ℕ) → parent_of path ≡ Some p → (last : List ℕ) × (path ≡ p ++ 58 ∷ last) × (list_any is_colon last ≡ false)
parent_splits_off path p is = elim (last_colon path) [
  | inl none ↦ absurd (none-some p (root_of path none ∙ is))
  | inr w ↦
      let same : w.0 ≡ p = same_Some _ _ (path_parent w.0 w.1 w.3 ∙ ap parent_of (sym w.2) ∙ is) in
      (w.1, w.2 ∙ ap (λ front. front ++ 58 ∷ w.1) same, w.3)
]

-- where two colons of a path stand, and the second is the last: the first front is the second, or lies above it
two_colons : (q p rest last : List ℕ) → q ++ 58 ∷ rest ≡ p ++ 58 ∷ last → list_any is_colon last ≡ false → (q ≡ p) ⊎ IsBelow q p
two_colons [] [] rest last e none = inl refl
two_colons [] (c ∷ p) rest last e none = inr (p, cc)
two_colons (a ∷ q) [] rest last e none =
    let tail : last ≡ q ++ 58 ∷ rest = cc in
    let colon : list_any is_colon (q ++ 58 ∷ rest) ≡ true = list_any-append is_colon q (58 ∷ rest) ∙ or_right _ _ refl in
    absurd (true≢false (sym colon ∙ ap (list_any is_colon) (sym tail) ∙ none))
two_colons (a ∷ q) (c ∷ p) rest last e none =
    let head : a ≡ c = cc in
    let tail : q ++ 58 ∷ rest ≡ p ++ 58 ∷ last = cc in
    elim (two_colons q p rest last tail none) [
      | inl same ↦ inl (cc (same, head))
      | inr w ↦ inr (w.0, cc (w.1, head))
    ]

-- what a path lies below is its parent, or what its parent lies below
pub above_parent : (path p q : List ℕ) → parent_of path ≡ Some p → IsBelow q path → (q ≡ p) ⊎ IsBelow q p
above_parent path p q is below =
    let cut = parent_splits_off path p is in
    two_colons q p below.0 cut.0 (sym below.1 ∙ cut.1) cut.2

-- a root lies below nothing
pub above_root : (path q : List ℕ) → parent_of path ≡ None → IsBelow q path → ⊥
above_root path q is below = elim (last_colon path) [
  | inl none ↦ true≢false (sym (ap (list_any is_colon) below.1 ∙ list_any-append is_colon q (58 ∷ below.0) ∙ or_right _ _ refl) ∙ none)
  | inr w ↦ none-some w.0 (sym is ∙ ap parent_of w.2 ∙ sym (path_parent w.0 w.1 w.3))
]
