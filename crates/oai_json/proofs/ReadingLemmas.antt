-- Readings in steps, and a reading of each of a list as a loop takes it.
use Rattle.std.proofs.Common.{◌≡◌, ℕ, suc, ◌+◌, ◌<◌, Option, Some, None, List, [], ◌∷◌, ◌++◌, length, get_or, drop, map, refl, sym, ap, ◌∙◌, append_assoc, add-one, drop-cons}
use Rattle.std.proofs.lemmas.List.{append-nil}
use Rattle.oai_names.specs.Optional.{◌>>=◌, each_of}

pub Some-injective : {A : Type 0} (x y : A) → Some x ≡ Some y → x ≡ y
Some-injective x y is = cc

-- the value of a step that read something
pub bind-Some : {A B : Type 0} (r : Option A) (f : A → Option B) (y : B) → (r >>= f) ≡ Some y → (x : A) × (r ≡ Some x) × (f x ≡ Some y)
bind-Some (Some x) f y is = (x, refl, is)
bind-Some None f y is = absurd cc

-- what is done, and then what is left
abbrev pub with_front : {A : Type 0} → List A → Option (List A) → Option (List A)
with_front done left = left >>= λ ys. Some (done ++ ys)

pub starts : {A : Type 0} (r : Option (List A)) → with_front [] r ≡ r
starts (Some ys) = refl
starts None = refl

regroup : {A : Type 0} (done : List A) (y : A) (r : Option (List A))
    → with_front done (r >>= λ ys. Some (y ∷ ys)) ≡ with_front (done ++ y ∷ []) r
regroup done y (Some ys) = ap (λ zs. Some zs) (sym (append_assoc done (y ∷ []) ys))
regroup done y None = refl

-- one more value, of a list
pub goes_on : {A B : Type 0} (f : A → Option B) (done : List B) (x : A) (xs : List A) (y : B) (total : Option (List B))
    → f x ≡ Some y → with_front done (each_of f (x ∷ xs)) ≡ total → with_front (done ++ y ∷ []) (each_of f xs) ≡ total
goes_on f done x xs y total is so_far =
    sym (regroup done y (each_of f xs)) ∙ ap (λ r. with_front done (r >>= λ z. each_of f xs >>= λ zs. Some (z ∷ zs))) (sym is) ∙ so_far

-- one more value, of a slice
pub next_read : {X A B : Type 0} (see : X → A) (f : A → Option B) (done : List B) (xs : List X) (i : ℕ) (d : X) (y : B) (total : Option (List B))
    → i < length xs → f (see (get_or xs i d)) ≡ Some y → with_front done (each_of f (map see (drop i xs))) ≡ total
    → with_front (done ++ y ∷ []) (each_of f (map see (drop (i + 1) xs))) ≡ total
next_read see f done xs i d y total inside is so_far =
    rw add-one (goes_on f done (see (get_or xs i d)) (map see (drop (suc i) xs)) y total is (rw (drop-cons xs i d inside) at so_far))

-- no value is left
pub is_done : {A B : Type 0} (f : A → Option B) (done : List B) (xs : List A) (total : Option (List B))
    → xs ≡ [] → with_front done (each_of f xs) ≡ total → total ≡ Some done
is_done f done xs total none so_far =
    sym so_far ∙ ap (λ zs. with_front done (each_of f zs)) none ∙ ap (λ ys. Some ys) (append-nil done)
