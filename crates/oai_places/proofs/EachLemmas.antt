-- What is so of each of a list, one changed after the other.
use Rattle.std.proofs.Common.{◌≡◌, ◌∙◌, ◌+◌, ◌<◌, ◌≤◌, ℕ, List, [], ◌∷◌, ◌++◌, length, take, drop, get_or, slice_set, sym, ap, subst}
use Rattle.std.specs.List.{AllByRecursion}
use Rattle.std.proofs.lemmas.List.{drop-drop, drop-set, drop_more, take_all, take_more_set}

-- one more
pub each_more : {A : Type 0} (P : A → Type 0) (xs : List A) (x : A) → AllByRecursion P xs → P x → AllByRecursion P (xs ++ x ∷ [])
each_more P [] x h own = (own, tt)
each_more P (y ∷ xs) x h own = (h.0, each_more P xs x h.1 own)

-- of those of a list that are left, the first, and the others
pub each_left : {A : Type 0} (P : A → Type 0) (xs : List A) (at : ℕ) (d : A) → at < length xs → AllByRecursion P (drop at xs) → P (get_or xs at d) × AllByRecursion P (drop (at + 1) xs)
each_left P xs at d within h = subst (AllByRecursion P) (drop_more xs at d within) h

-- the first of those that are left is changed
pub each_set : {A : Type 0} (P Q : A → Type 0) (xs : List A) (at : ℕ) (old new : A) → at < length xs → old ≡ get_or xs at old → (P old → Q new) → AllByRecursion Q (take at xs) → AllByRecursion P (drop at xs)
    → AllByRecursion Q (take (at + 1) (slice_set xs at new)) × AllByRecursion P (drop (at + 1) (slice_set xs at new))
each_set P Q xs at old new within is so done left =
    let parts = each_left P xs at old within left in (
      subst (AllByRecursion Q) (sym (take_more_set xs at new within)) (each_more Q (take at xs) new done (so (subst P (sym is) parts.0))),
      subst (AllByRecursion P) (sym (sym (drop-drop 1 at (slice_set xs at new)) ∙ ap (drop 1) (drop-set xs at new within))) parts.1,
    )

-- all were changed
pub each_done : {A : Type 0} (P : A → Type 0) (xs : List A) (at : ℕ) → length xs ≤ at → AllByRecursion P (take at xs) → AllByRecursion P xs
each_done P xs at all h = subst (AllByRecursion P) (take_all at xs all) h
