-- What a stable sort by identifiers gives.
use Rattle.std.proofs.Common.{◌≡◌, ◌∙◌, ℕ, suc, ◌<◌, ◌≤◌, pos, Bool, true, false, not, ◌&&◌, List, [], ◌∷◌, length, get_or, refl, sym, ap, arith}
use Rattle.std.specs.Prelude.{filter}
use Rattle.std.specs.Cmp.{IsStrictWeakOrder}
use Rattle.std.specs.Cmp.Lexicographic.{slice_cmp}
use Rattle.std.specs.List.{list_all}
use Rattle.std.specs.List.Sorted.{IsSortedBy, IsStableBy, ties}
use Rattle.std.specs.Ordering.{nat_cmp, is_lt, is_eq, ordering_reverse}
use Rattle.std.specs.declared.cmp.Ordering.{Ordering}
use Rattle.std.specs.declared.cmp.Ordering.TheVariants.{Less, Equal, Greater}
use Rattle.std.proofs.lemmas.Bool.{and_from, not_from_false}
use Rattle.std.proofs.lemmas.Cmp.{nat_list_cmp_total}
use Rattle.std.proofs.lemmas.List.Sorted.{ranks_by, sorted_far}
use Rattle.std.proofs.lemmas.Map.Text.{is_eq-slice_cmp}
use Rattle.oai_item.specs.Item.{ItemState}
use Rattle.oai_item.specs.Items.{is_named}
use Rattle.oai_copy.specs.Copies.{is_listed_before}
use Rattle.oai_copy.specs.Merges.{IsArranged, is_not_behind, never_fall}

pub ranks : IsStrictWeakOrder is_listed_before
ranks = ranks_by nat_list_cmp_total (λ (item : ItemState). item.identifier)

all_from_places : (p : ItemState → Bool) (xs : List ItemState) → ((k : ℕ) (d : ItemState) → k < length xs → p (get_or xs k d) ≡ true) → list_all p xs ≡ true
all_from_places p [] h = refl
all_from_places p (x ∷ xs) h = and_from (p x) (list_all p xs) (h 0 x (omega arith)) (all_from_places p xs (λ k d within. h (suc k) d (omega arith)))

unfallen : (xs : List ItemState) → ((i j : ℕ) (d : ItemState) → i ≤ j → j < length xs → is_listed_before (get_or xs j d) (get_or xs i d) ≡ false) → never_fall xs ≡ true
unfallen [] h = refl
unfallen (x ∷ xs) h =
    and_from (list_all (is_not_behind x) xs) (never_fall xs)
    (all_from_places (is_not_behind x) xs (λ k d within. not_from_false (is_listed_before (get_or xs k d) x) (h 0 (suc k) d (omega arith) (omega arith))))
    (unfallen xs (λ i j d le within. h (suc i) (suc j) d (omega arith) (omega arith)))

neither : (o p : Ordering) → p ≡ ordering_reverse o → (not (is_lt p) && not (is_lt o)) ≡ is_eq o
neither Less p turned = rw turned refl
neither Equal p turned = rw turned refl
neither Greater p turned = rw turned refl

-- two items tie where they have one identifier
ties_named : (x y : ItemState) → ties is_listed_before x y ≡ is_named x.identifier y
ties_named x y =
    neither (slice_cmp nat_cmp y.identifier x.identifier) (slice_cmp nat_cmp x.identifier y.identifier) (nat_list_cmp_total.antisymm x.identifier y.identifier) ∙ is_eq-slice_cmp y.identifier x.identifier

-- some item of that identifier
abbrev sample : List ℕ → ItemState
sample identifier = record { identifier = identifier; stamp = pos 0; live = true; sets = []; formats = [] }

pub arranged_is : (items old new : List ItemState) → old ≡ items → IsSortedBy is_listed_before new → IsStableBy is_listed_before old new → IsArranged items new
arranged_is items old new copied sorted stable = record {
  ordered = unfallen new (sorted_far is_listed_before ranks new sorted);
  same = λ q.
      let tied : ties is_listed_before (sample q) ≡ is_named q = λ i y. ties_named (sample q) y i in
      ap (λ p. filter p new) (sym tied) ∙ stable (sample q) ∙ ap (λ p. filter p old) tied ∙ ap (filter (is_named q)) copied;
}
