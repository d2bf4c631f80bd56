-- What a set lies in is a set too: along its parents, each of which is one.
use Rattle.std.proofs.Common.{◌≡◌, ◌∙◌, ℕ, ◌≤◌, zero, suc, Bool, true, List, [], ◌∷◌, ◌++◌, length, take, drop, Option, None, Some, inl, inr, refl, sym, ap, subst, arith, length-append, take-append-drop}
use Rattle.std.proofs.lemmas.Bool.{or_cases, or_left}
use Rattle.std.proofs.lemmas.List.Folds.{list_any-append}
use Rattle.std.proofs.lemmas.Slice.Eq.{bytes_eq-Decides}
use Rattle.std.specs.List.{list_any, slice_get}
use Rattle.std.specs.Str.{bytes_eq}
use Rattle.oai_names.proofs.Parents.{IsBelow, above_parent, above_root, parent_splits_off}
use Rattle.oai_names.specs.Sets.{HasSetsAbove, IsSetTree, has_parent, has_set, is_none_or_has, parent_of}

-- where the test passes somewhere, it passes at a place
at_place : {X : Type 0} (p : X → Bool) (xs : List X) → list_any p xs ≡ true → (i : ℕ) × (x : X) × (slice_get xs i ≡ Some x) × (p x ≡ true)
at_place p [] h = cc
at_place p (x ∷ xs) h = elim (or_cases (p x) (list_any p xs) h) [
  | inl here ↦ (0, x, refl, here)
  | inr later ↦ let found = at_place p xs later in (suc found.0, found.1, found.2, found.3)
]

-- a set among the first ones is one of all
of_front : (sets : List (List ℕ × List ℕ)) (i : ℕ) (spec : List ℕ) → has_set (take i sets) spec ≡ true → has_set sets spec ≡ true
of_front sets i spec h =
    let test : List ℕ × List ℕ → Bool = λ set. bytes_eq spec set.0 in
    ap (list_any test) (sym (take-append-drop i sets)) ∙ list_any-append test (take i sets) (drop i sets) ∙ or_left _ _ h

of_front_given : (sets : List (List ℕ × List ℕ)) (i : ℕ) (parent : Option (List ℕ)) → is_none_or_has (take i sets) parent ≡ true → is_none_or_has sets parent ≡ true
of_front_given sets i None h = refl
of_front_given sets i (Some parent) h = of_front sets i parent h

-- the parent of a set is a set
parent_is_set : (sets : List (List ℕ × List ℕ)) → IsSetTree sets → (spec : List ℕ) → has_set sets spec ≡ true → has_parent sets spec ≡ true
parent_is_set sets tree spec h =
    let found = at_place (λ (set : List ℕ × List ℕ). bytes_eq spec set.0) sets h in
    let same : spec ≡ found.1.0 = (bytes_eq-Decides spec found.1.0).0 found.3 in
    of_front_given sets found.0 (parent_of spec) (subst (λ s. has_parent (take found.0 sets) s ≡ true) (sym same) (tree.parents found.0 found.1 found.2))

parent_shorter : (spec parent last : List ℕ) → spec ≡ parent ++ 58 ∷ last → (n : ℕ) → length spec ≤ suc n → length parent ≤ n
parent_shorter spec parent last e n h = omega (arith, ap length e, length-append parent (58 ∷ last))

-- above a set, by its parent, where so much is known of shorter setSpecs
above_at : (n : ℕ) (sets : List (List ℕ × List ℕ)) (above spec : List ℕ) → length spec ≤ suc n → IsBelow above spec
    → ((parent : List ℕ) → length parent ≤ n → has_set sets parent ≡ true → IsBelow above parent → has_set sets above ≡ true)
    → (parent : Option (List ℕ)) → parent_of spec ≡ parent → is_none_or_has sets parent ≡ true → has_set sets above ≡ true
above_at n sets above spec short below again None is h = absurd (above_root spec above is below)
above_at n sets above spec short below again (Some parent) is h = elim (above_parent spec parent above is below) [
  | inl same ↦ subst (λ s. has_set sets s ≡ true) (sym same) h
  | inr higher ↦
      let cut = parent_splits_off spec parent is in
      again parent (parent_shorter spec parent cut.0 cut.1 n short) h higher
]

-- along no more parents than the setSpec has bytes
above_by : (n : ℕ) (sets : List (List ℕ × List ℕ)) → IsSetTree sets → (above spec : List ℕ) → length spec ≤ n → has_set sets spec ≡ true → IsBelow above spec
    → has_set sets above ≡ true
above_by zero sets tree above spec short h below = absurd (omega (arith, ap length below.1, length-append above (58 ∷ below.0)))
above_by (suc n) sets tree above spec short h below =
    above_at n sets above spec short below (λ parent less there lower. above_by n sets tree above parent less there lower) (parent_of spec) refl (parent_is_set sets tree spec h)

pub sets_stand_above : (sets : List (List ℕ × List ℕ)) → IsSetTree sets → HasSetsAbove sets
sets_stand_above sets tree above spec h covered = elim covered [
  | inl same ↦ subst (λ s. has_set sets s ≡ true) same h
  | inr below ↦ above_by (length spec) sets tree above spec (omega arith) h below
]
