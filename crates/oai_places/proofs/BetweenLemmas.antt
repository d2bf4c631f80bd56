-- The items from one place up to another.
use Rattle.std.proofs.Common.{◌≡◌, ◌∙◌, ◌+◌, ◌-◌, ◌^◌, ◌<◌, ◌≤◌, ℕ, ℤ, suc, zero, true, List, [], ◌∷◌, ◌++◌, length, take, drop, get_or, sym, ap, arith, length-drop}
use Rattle.std.proofs.lemmas.List.{drop_all, drop_more, get_or-take, length-take-le, take-append-drop, take-take, take_all}
use Rattle.oai_item.specs.Item.{ItemState}
use Rattle.oai_item.specs.Order.{are_in_order}
use Rattle.std.specs.Ordering.{is_eq}
use Rattle.std.proofs.lemmas.Cmp.{tied_itself}
use Rattle.oai_item.specs.Items.{is_at}
use Rattle.oai_item.proofs.Around.{in_order-append}
use Rattle.oai_item.proofs.OrderLemmas.{is_at-Equal, total}
use Rattle.oai_places.specs.Pages.{AreStorable, FitPage, begins_at, between}

pub between-none : (n : ℕ) (items : List ItemState) → between n n items ≡ []
unfolding between
between-none n items = drop_all n (take n items) (omega (arith, length-take-min n items)) where
  length-take-min : (n : ℕ) (xs : List ItemState) → length (take n xs) ≤ n
  length-take-min zero xs = omega arith
  length-take-min (suc n) [] = omega arith
  length-take-min (suc n) (x ∷ xs) = omega (arith, length-take-min n xs)

pub length-between : (from to : ℕ) (items : List ItemState) → to ≤ length items → length (between from to items) ≡ to - from
unfolding between
length-between from to items within = omega (arith, length-drop from (take to items), length-take-le to items within)

-- a list of items is its parts
pub between-parts : (first second : ℕ) (items : List ItemState) → first ≤ second → second ≤ length items
    → (between 0 first items ++ between first second items) ++ between second (length items) items ≡ items
unfolding between
between-parts first second items below within =
    ap (λ zs. (zs ++ drop first (take second items)) ++ drop second (take (length items) items)) (sym (take-take first second items below))
    ∙ ap (λ zs. zs ++ drop second (take (length items) items)) (take-append-drop first (take second items))
    ∙ ap (λ zs. take second items ++ drop second zs) (take_all (length items) items (omega arith))
    ∙ take-append-drop second items

-- the first of them
pub between-first : (from to : ℕ) (items : List ItemState) (d : ItemState) → from < to → to ≤ length items → between from to items ≡ get_or items from d ∷ drop (from + 1) (take to items)
unfolding between
between-first from to items d below within =
    drop_more (take to items) from d (omega (arith, length-take-le to items within))
    ∙ ap (λ x. x ∷ drop (from + 1) (take to items)) (get_or-take to items from d below)

-- ---- what is so of all is so of them

stored_front : (n : ℕ) (items : List ItemState) → AreStorable items → AreStorable (take n items)
stored_front zero items h = tt
stored_front (suc n) [] h = tt
stored_front (suc n) (x ∷ items) h = (h.0, stored_front n items h.1)

stored_back : (n : ℕ) (items : List ItemState) → AreStorable items → AreStorable (drop n items)
stored_back zero items h = h
stored_back (suc n) [] h = tt
stored_back (suc n) (x ∷ items) h = stored_back n items h.1

pub storable-between : (from to : ℕ) (items : List ItemState) → AreStorable items → AreStorable (between from to items)
unfolding between
storable-between from to items h = stored_back from (take to items) (stored_front to items h)

pub in_order-between : (from to : ℕ) (items : List ItemState) → are_in_order items ≡ true → are_in_order (between from to items) ≡ true
unfolding between
in_order-between from to items h =
    let front : are_in_order (take to items) ≡ true = (in_order-append (take to items) (drop to items) (ap are_in_order (take-append-drop to items) ∙ h)).0 in
    (in_order-append (take from (take to items)) (drop from (take to items)) (ap are_in_order (take-append-drop from (take to items)) ∙ front)).1

-- so they may be a page
pub fit-between : (from to : ℕ) (items : List ItemState) → from < to → to ≤ length items → to - from < 2 ^ 32 → AreStorable items → are_in_order items ≡ true
    → FitPage (between from to items)
fit-between from to items below within few stored rising = record {
  some = omega (arith, length-between from to items within, below);
  few = omega (arith, length-between from to items within, few);
  storable = storable-between from to items stored;
  rising = in_order-between from to items rising;
}

own_at : (x : ItemState) → is_at x.stamp x.identifier x ≡ true
own_at x = is_at-Equal x.stamp x.identifier x ∙ ap is_eq (tied_itself total x)

-- they begin at the first of them
pub begins-between : (stamp : ℤ) (identifier : List ℕ) (from to : ℕ) (items : List ItemState) (d : ItemState) → from < to → to ≤ length items
    → stamp ≡ (get_or items from d).stamp → identifier ≡ (get_or items from d).identifier → begins_at stamp identifier (between from to items) ≡ true
begins-between stamp identifier from to items d below within is_stamp is_identifier =
    let x : ItemState = get_or items from d in
    ap (begins_at stamp identifier) (between-first from to items d below within)
    ∙ ap (λ s. is_at s identifier x) is_stamp ∙ ap (λ i. is_at x.stamp i x) is_identifier ∙ own_at x
