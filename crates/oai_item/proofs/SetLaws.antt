-- Reducing the sets of an item leaves it in the same sets.
use Rattle.std.proofs.Common.{◌≡◌, ◌∙◌, ℕ, ◌+◌, ◌<◌, ◌≤◌, suc, zero, Bool, true, false, not, List, [], ◌∷◌, ◌++◌, inl, inr, length, refl, sym, ap, arith, length-append, append_assoc}
use Rattle.std.specs.List.{concat, list_any}
use Rattle.std.specs.Str.{bytes_eq}
use Rattle.std.proofs.lemmas.Bool.{and_from, and_parts, both_ways, cases_Bool, false≢true, not-true, not_from_false, or_cases}
use Rattle.std.proofs.lemmas.Slice.Eq.{bytes_eq-Decides}
use Rattle.oai_names.proofs.Covering.{covers-Decides}
use Rattle.oai_names.specs.Sets.{Covers, covers}
use Rattle.oai_item.proofs.Kept.{Has, any_has, has_any, has_reduced}
use Rattle.oai_item.specs.Membership.{is_above, is_in, reduced}

pub same_from_both : (a b : Bool) → (a ≡ true → b ≡ true) → (b ≡ true → a ≡ true) → a ≡ b
same_from_both true b there back = sym (there refl)
same_from_both false true there back = back refl
same_from_both false false there back = refl

Covers-trans : (s t u : List ℕ) → Covers s t → Covers t u → Covers s u
Covers-trans s t u (inl e) (inl f) = inl (f ∙ e)
Covers-trans s t u (inl e) (inr w) = inr (w.0, w.1 ∙ ap (λ x. x ++ 58 ∷ w.0) e)
Covers-trans s t u (inr v) (inl f) = inr (v.0, f ∙ v.1)
Covers-trans s t u (inr v) (inr w) = inr (v.0 ++ 58 ∷ w.0, w.1 ∙ ap (λ x. x ++ 58 ∷ w.0) v.1 ∙ append_assoc s (58 ∷ v.0) (58 ∷ w.0))

covers_trans : (s t u : List ℕ) → covers s t ≡ true → covers t u ≡ true → covers s u ≡ true
covers_trans s t u first second =
    (covers-Decides s u).1 (Covers-trans s t u ((covers-Decides s t).0 first) ((covers-Decides t u).0 second))

pub covers_itself : (s : List ℕ) → covers s s ≡ true
covers_itself s = (covers-Decides s s).1 (inl refl)

-- what lies below a set is longer than it
longer : (s t : List ℕ) → Covers s t → bytes_eq s t ≡ false → length s < length t
longer s t (inl e) other = absurd (both_ways _ other ((bytes_eq-Decides s t).1 (sym e)))
longer s t (inr w) other = omega (arith, ap length w.1, length-append s (58 ∷ w.0))

above_parts : (s t : List ℕ) → is_above s t ≡ true → (covers s t ≡ true) × (length s < length t)
unfolding is_above
above_parts s t above =
    let parts = and_parts (covers s t) (not (bytes_eq s t)) above in
    (parts.0, longer s t ((covers-Decides s t).0 parts.0) (not-true _ parts.1))

-- no text of the list has more bytes than all of them
within_all : (texts : List (List ℕ)) (t : List ℕ) → Has texts t → length t ≤ length (concat texts)
within_all [] t h = absurd (false≢true h)
within_all (x ∷ texts) t h =
    elim (or_cases (bytes_eq t x) (list_any (bytes_eq t) texts) h) [
      | inl here ↦ omega (arith, ap length ((bytes_eq-Decides t x).0 here), length-append x (concat texts))
      | inr later ↦ omega (arith, within_all texts t later, length-append x (concat texts))
    ]

-- below each of the sets, or at it, stands one that stays: go down as long as there is a longer one
lowest : (n : ℕ) (sets : List (List ℕ)) (t : List ℕ) → length (concat sets) < length t + n → Has sets t → (v : List ℕ) × Has (reduced sets) v × (covers t v ≡ true)
lowest zero sets t room h = absurd (omega (arith, within_all sets t h))
lowest (suc n) sets t room h =
    elim (cases_Bool (list_any (is_above t) sets)) [
      | inl some ↦
          let below = any_has (is_above t) sets some in
          let parts = above_parts t below.0 below.2 in
          let found = lowest n sets below.0 (omega (arith, parts.1)) below.1 in
          (found.0, found.1, covers_trans t below.0 found.0 parts.0 found.2)
      | inr none ↦ (t, has_reduced sets t ∙ and_from _ _ (not_from_false _ none) h, covers_itself t)
    ]

-- an item is in the same sets by the reduced list
pub same_sets : (s : List ℕ) (sets : List (List ℕ)) → is_in s (reduced sets) ≡ is_in s sets
unfolding is_in
same_sets s sets =
    same_from_both _ _
    (λ h.
    let found = any_has (covers s) (reduced sets) h in
    has_any (covers s) sets found.0 (and_parts (not (list_any (is_above found.0) sets)) _ (sym (has_reduced sets found.0) ∙ found.1)).1 found.2)
    (λ h.
    let found = any_has (covers s) sets h in
    let low = lowest (suc (length (concat sets))) sets found.0 (omega arith) found.1 in
    has_any (covers s) (reduced sets) low.0 low.1 (covers_trans s found.0 low.0 found.2 low.2))
