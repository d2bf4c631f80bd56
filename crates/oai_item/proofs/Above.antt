-- The setSpecs above a set, found one parent after another.
use Rattle.std.proofs.Common.{◌≡◌, ◌∙◌, ℕ, ◌<◌, Bool, true, false, cond, not, ◌||◌, List, ◌∷◌, ◌++◌, inr, ⊎_elim, Some, None, length, refl, sym, ap, arith, length-append, append_assoc, Bor}
use Rattle.std.specs.Bool.{Decides}
use Rattle.std.specs.BTreeSet.{BTreeSet, Updates}
use Rattle.std.specs.Cmp.Lexicographic.{slice_cmp}
use Rattle.std.specs.Ordering.{nat_cmp}
use Rattle.std.specs.Str.{bytes_eq}
use Rattle.std.proofs.lemmas.Bool.{and_from, and_parts, both_ways, false_from_ne_true, not-true, not_from_false, or_cases, or_left, or_right}
use Rattle.std.proofs.lemmas.Cmp.{nat_list_eq_equiv}
use Rattle.std.proofs.lemmas.Map.Text.{is_eq-slice_cmp}
use Rattle.std.proofs.lemmas.Slice.Eq.{bytes_eq-Decides}
use Rattle.oai_names.proofs.Covering.{covers-Decides, same_test}
use Rattle.oai_names.proofs.Parents.{IsBelow, above_parent, above_root, parent_splits_off}
use Rattle.oai_names.specs.Sets.{covers, parent_of}
use Rattle.oai_item.specs.Membership.{is_above}
use Rattle.oai_item.specs.Reductions.{holds}

-- the test decides that t is q, a colon, and something more
is_above-Decides : (q t : List ℕ) → Decides (is_above q t) (IsBelow q t)
unfolding is_above
is_above-Decides q t = (
  (λ h.
      let parts = and_parts (covers q t) (not (bytes_eq q t)) h in
      ⊎_elim
      (λ e. absurd (both_ways _ (not-true _ parts.1) ((bytes_eq-Decides q t).1 (sym e))))
      (λ w. w)
      ((covers-Decides q t).0 parts.0)),
  (λ w.
      and_from _ _ ((covers-Decides q t).1 (inr w))
      (not_from_false _ (false_from_ne_true (bytes_eq q t) (λ (same : bytes_eq q t ≡ true). omega (arith, ap length ((bytes_eq-Decides q t).0 same), ap length w.1, length-append q (58 ∷ w.0)))))),
)

-- above a path stand its parent, and what is above its parent
pub is_above-parent : (path p q : List ℕ) → parent_of path ≡ Some p → is_above q path ≡ (bytes_eq q p || is_above q p)
is_above-parent path p q is =
    let cut = parent_splits_off path p is in
    same_test {P = IsBelow q path} _ _ (is_above-Decides q path) (
      (λ h. ⊎_elim
          (λ same. (cut.0, cut.1 ∙ ap (λ front. front ++ 58 ∷ cut.0) (sym ((bytes_eq-Decides q p).0 same))))
          (λ above. let w = (is_above-Decides q p).0 above in (w.0 ++ 58 ∷ cut.0, cut.1 ∙ ap (λ front. front ++ 58 ∷ cut.0) w.1 ∙ append_assoc q (58 ∷ w.0) (58 ∷ cut.0)))
          (or_cases _ _ h)),
      (λ below. ⊎_elim
          (λ same. or_left _ _ ((bytes_eq-Decides q p).1 same))
          (λ w. or_right _ _ ((is_above-Decides q p).1 w))
          (above_parent path p q is below)),
    )

pub is_above-root : (path q : List ℕ) → parent_of path ≡ None → is_above q path ≡ false
is_above-root path q is = false_from_ne_true _ (λ h. above_root path q is ((is_above-Decides q path).0 h))

pub parent_shorter : (path p : List ℕ) → parent_of path ≡ Some p → length p < length path
parent_shorter path p is =
    let cut = parent_splits_off path p is in
    omega (arith, ap length cut.1, length-append p (58 ∷ cut.0))

cond_or : (a b : Bool) → cond b true a ≡ (b || a)
cond_or a true = refl
cond_or a false = refl

-- a set with one text more
pub holds_more : (old new : BTreeSet (Bor (List ℕ))) (key : Bor (List ℕ)) → Updates (λ x y. slice_cmp nat_cmp x.now y.now) old new key true → (q : List ℕ) → holds new q ≡ (bytes_eq q key.now || holds old q)
holds_more old new key updates q =
    updates.0 (record { ref_ptr = key.ref_ptr; now = q })
    ∙ rw (is_eq-slice_cmp key.now q, nat_list_eq_equiv.symm key.now q) (cond_or (holds old q) (bytes_eq q key.now))

pub or_between : (a b c : Bool) → ((b || a) || c) ≡ (a || (b || c))
or_between true true c = refl
or_between true false c = refl
or_between false true c = refl
or_between false false c = refl

pub or_false : (a : Bool) → (a || false) ≡ a
or_false true = refl
or_false false = refl

pub or_turn : (a b : Bool) → (a || b) ≡ (b || a)
or_turn true true = refl
or_turn true false = refl
or_turn false true = refl
or_turn false false = refl

pub or_last : (a b c : Bool) → (c || (a || b)) ≡ (a || (b || c))
or_last true true true = refl
or_last true true false = refl
or_last true false true = refl
or_last true false false = refl
or_last false true true = refl
or_last false true false = refl
or_last false false true = refl
or_last false false false = refl
