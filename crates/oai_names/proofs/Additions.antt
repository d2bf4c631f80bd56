-- One more set at the end of a tree.
use Rattle.std.proofs.Common.{◌≡◌, ℕ, ◌<◌, suc, zero, true, false, List, [], ◌∷◌, ◌++◌, length, take, Some, subst, arith, length-append}
use Rattle.std.proofs.lemmas.Option.{none-some, same_Some}
use Rattle.std.specs.List.{slice_get}
use Rattle.oai_names.specs.declared.limits.TheConstants.{MAX_SETS}
use Rattle.oai_names.specs.Sets.{IsSetTree, has_set, has_parent}

-- what each element and those before it have in common still holds after a push
each_before_push : {A : Type 0} (P : List A → A → Type 0) (xs : List A) (y : A)
    → ((i : ℕ) (x : A) → slice_get xs i ≡ Some x → P (take i xs) x) → P xs y
    → (i : ℕ) (x : A) → slice_get (xs ++ y ∷ []) i ≡ Some x → P (take i (xs ++ y ∷ [])) x
each_before_push P [] y before last zero x e = subst (λ z. P [] z) (same_Some y x e) last
each_before_push P [] y before last (suc i) x e = absurd (none-some x e)
each_before_push P (z ∷ xs) y before last zero x e = before zero x e
each_before_push P (z ∷ xs) y before last (suc i) x e =
    each_before_push (λ front w. P (z ∷ front) w) xs y (λ k w. before (suc k) w) last i x e

pub IsSetTree-push : (sets : List (List ℕ × List ℕ)) (spec name : List ℕ)
    → has_set sets spec ≡ false → has_parent sets spec ≡ true → length sets < MAX_SETS → IsSetTree sets → IsSetTree (sets ++ (spec, name) ∷ [])
IsSetTree-push sets spec name apart parent room tree = record {
  distinct = each_before_push (λ front set. has_set front set.0 ≡ false) sets (spec, name) tree.distinct apart;
  parents = each_before_push (λ front set. has_parent front set.0 ≡ true) sets (spec, name) tree.parents parent;
  few = omega (arith, length-append sets ((spec, name) ∷ []));
}
