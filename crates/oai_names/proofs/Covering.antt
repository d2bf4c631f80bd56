-- When the setSpec t lies in the set s, by what follows s in t.
use Rattle.std.proofs.Common.{◌≡◌, ◌≢◌, ◌∙◌, ℕ, Bool, true, false, nat_eq, List, [], ◌∷◌, ◌++◌, ⊎_elim, inl, inr, length, IsTrue, refl, sym, ap, subst, arith, length-append, append-nil, append_assoc}
use Rattle.std.proofs.lemmas.Bool.{or_cases, or_left, or_right, eqb-true, eq-eqb, false_from_ne_true, false≢true}
use Rattle.std.proofs.lemmas.Bool.Decides.{Decides-eqb}
use Rattle.std.proofs.lemmas.List.{append_cancel_left}
use Rattle.std.proofs.lemmas.Slice.Eq.{bytes_eq-Decides, starts_is}
use Rattle.std.specs.Bool.{Decides}
use Rattle.std.specs.List.{starts_with}
use Rattle.oai_names.specs.ByteTests.{ends_part}
use Rattle.oai_names.specs.Sets.{Covers, covers}

-- the test decides the relation
pub covers-Decides : (s t : List ℕ) → Decides (covers s t) (Covers s t)
unfolding covers
covers-Decides s t =
    let same = bytes_eq-Decides s t in
    let below = starts_is Decides-eqb t (s ++ 58 ∷ []) (starts_with nat_eq t (s ++ 58 ∷ [])) refl in (
      (λ h. ⊎_elim (λ e. inl (sym (same.0 e))) (λ e. inr (_, below.0 e ∙ append_assoc s (58 ∷ []) _)) (or_cases _ _ h)),
      ⊎_elim (λ e. or_left _ _ (same.1 (sym e))) (λ w. or_right _ _ (below.1 w.0 (w.1 ∙ sym (append_assoc s (58 ∷ []) w.0)))),
    )

-- two tests that decide one fact are equal
pub same_test : {P : Type 0} (a b : Bool) → Decides a P → Decides b P → a ≡ b
same_test true b da db = sym (db.1 (da.0 refl))
same_test false b da db = sym (false_from_ne_true b (λ h. false≢true (da.1 (db.0 h))))

-- what is to be known of a test of it
pub record IsCovering (s t : List ℕ) (b : Bool) : Type 0 where
  pub test : b ≡ covers s t
  pub relation : (IsTrue b → Covers s t) × (Covers s t → IsTrue b)

decided : (s t : List ℕ) (b : Bool) → Decides b (Covers s t) → IsCovering s t b
decided s t b d = record { test = same_test b (covers s t) d (covers-Decides s t); relation = (d.0, d.1) }

-- t is s and something more
after_decides : (s rest : List ℕ) → Decides (ends_part rest) (Covers s (s ++ rest))
after_decides s [] = ((λ _. inl (append-nil s)), λ _. refl)
after_decides s (c ∷ rest) = (
  (λ h. inr (rest, ap (λ b. s ++ b ∷ rest) (eqb-true c 58 h))),
  ⊎_elim (λ e. absurd (omega (arith, ap length e, length-append s (c ∷ rest)))) (λ w. eq-eqb c 58 (let e : c ∷ rest ≡ 58 ∷ w.0 = append_cancel_left s _ _ w.1 in cc)),
)

pub covers_after : (s t rest : List ℕ) (b : Bool) → t ≡ s ++ rest → b ≡ ends_part rest → IsCovering s t b
covers_after s t rest b e test =
    decided s t b (subst (λ u. Decides b (Covers s u)) (sym e) (subst (λ x. Decides x (Covers s (s ++ rest))) (sym test) (after_decides s rest)))

-- t does not begin with s
pub covers_apart : (s t : List ℕ) → ((rest : List ℕ) → t ≢ s ++ rest) → IsCovering s t false
covers_apart s t apart =
    decided s t false ((λ h. absurd (false≢true h)), ⊎_elim (λ e. absurd (apart [] (e ∙ sym (append-nil s)))) (λ w. absurd (apart _ w.1)))
