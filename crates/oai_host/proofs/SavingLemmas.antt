-- The parts of a batch, as they are passed one after the other.
use Rattle.std.proofs.Common.{◌≡◌, ℕ, zero, suc, List, [], ◌∷◌, drop, map, take, None, Some, refl, ap}
use Rattle.std.specs.Prelude.{slice_get}
use Rattle.oai_item.specs.Item.{ItemState}
use Rattle.oai_repo.specs.Saved.{SavedPartState, has_gone, has_item}
use Rattle.oai_repo.specs.SavedLists.{part_of_difference}
use Rattle.oai_snapshots.specs.Batches.{all_come, all_go}

pub parts_gone : (items : List ItemState) → map part_of_difference (all_go items) ≡ map (λ (item : ItemState). has_gone item.identifier) items
parts_gone [] = refl
parts_gone (item ∷ items) = ap (λ (ps : List SavedPartState). has_gone item.identifier ∷ ps) (parts_gone items)

pub parts_come : (items : List ItemState) → map part_of_difference (all_come items) ≡ map has_item items
parts_come [] = refl
parts_come (item ∷ items) = ap (λ (ps : List SavedPartState). has_item item ∷ ps) (parts_come items)

-- the one at a position, if it is there
pub one_there : {A : Type 0} (xs : List A) (at : ℕ) (x : A) → slice_get xs at ≡ Some x → take 1 (drop at xs) ≡ x ∷ []
one_there [] at x there = cc
one_there (y ∷ xs) zero x there = let same : y ≡ x = cc in ap (λ z. z ∷ []) same
one_there (y ∷ xs) (suc at) x there = one_there xs at x there

pub none_there : {A : Type 0} (xs : List A) (at : ℕ) → slice_get xs at ≡ None → take 1 (drop at xs) ≡ []
none_there [] zero none = refl
none_there [] (suc at) none = refl
none_there (y ∷ xs) zero none = cc
none_there (y ∷ xs) (suc at) none = none_there xs at none
