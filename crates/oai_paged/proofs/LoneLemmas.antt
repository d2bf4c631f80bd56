-- A place whose item has overflow pages has that item alone: what a change beside it makes of a directory, without reading.
use Rattle.std.proofs.Common.{◌≡◌, ◌∙◌, ◌==◌, ◌+◌, ◌<◌, ℕ, ℤ, true, false, not, List, [], ◌∷◌, ◌++◌, Some, length, take, drop, get_or, refl, sym, ap, arith, append-nil, append_assoc}
use Rattle.std.specs.Prelude.{is_some}
use Rattle.std.specs.Ordering.{is_eq, is_lt, is_gt, ordering_index}
use Rattle.std.specs.declared.cmp.Ordering.{Ordering}
use Rattle.std.specs.declared.cmp.Ordering.TheVariants.{Less, Equal, Greater}
use Rattle.std.proofs.lemmas.Bool.{and_from}
use Rattle.std.proofs.lemmas.List.{drop_more, take_more}
use Rattle.oai_item.specs.Item.{ItemState}
use Rattle.oai_item.specs.Items.{item_at, with_item, without_at}
use Rattle.oai_item.specs.Order.{are_in_order, place_cmp}
use Rattle.oai_item.proofs.Around.{item_at-found, with_item-around, with_item-found, without_at-found}
use Rattle.oai_item.proofs.OrderLemmas.{in_order-with_item, in_order-without_at, placed-nil}
use Rattle.oai_pool.specs.declared.pools.PagePool.{Ghosts}
use Rattle.oai_paged.specs.Changes.{IsDirectoryChanged, IsRemoved}
use Rattle.oai_places.specs.Directory.{IsDirectory, MayStand, PutsAt, StandsIn, items_with_run}
use Rattle.oai_places.specs.Places.{Pages, PlaceState, first_cmp, items_at, items_on}
use Rattle.oai_places.specs.Searches.{BelongsAt}
use Rattle.oai_paged.proofs.ChangedLemmas.{changed_items}
use Rattle.oai_places.proofs.DirectoryLemmas.{item_at-cut, no_place, with_item-cut, without_at-cut}
use Rattle.oai_places.proofs.PlaceLemmas.{items_on-append, items_on-cons, items_on-nil}
use Rattle.oai_places.proofs.LoneItems.{IsLone}

-- ---- what is put in beside it

pub may_stand_put : (pages : Pages) (places : List PlaceState) (item : ItemState) (at len : ℕ) → IsDirectory pages places → PutsAt pages places item at len → MayStand pages places at len (item ∷ [])
may_stand_put pages places item at len h puts = ap are_in_order puts ∙ in_order-with_item item (items_on pages places) h.rising

pub items_beside : {P : Type 0} (g : Ghosts P) (item : ItemState) (at len new_at new_len : ℕ) (gone before after : List PlaceState) (old new : P) → StandsIn g old before
    → IsDirectoryChanged g (item ∷ []) at len new_at new_len gone before after old new → PutsAt (g.pages old) before item at len
    → items_on (g.pages new) after ≡ with_item item (items_on (g.pages old) before)
items_beside g item at len new_at new_len gone before after old new h changed puts =
    changed_items g (item ∷ []) at len new_at new_len gone before after old new h changed ∙ puts

pub put_none : (item : ItemState) → with_item item [] ≡ item ∷ []
unfolding with_item without_at
put_none item = placed-nil item

-- into no places
pub puts_first : (pages : Pages) (places : List PlaceState) (item : ItemState) → places ≡ [] → PutsAt pages places item 0 0
puts_first pages places item none =
    let no_items : items_on pages places ≡ [] = ap (items_on pages) none ∙ items_on-nil pages in
    (λ i. items_on-nil pages i ++ ((item ∷ []) ++ no_items i)) ∙ sym (put_none item) ∙ ap (with_item item) (sym no_items)

put_behind : (x item : ItemState) → place_cmp x item.stamp item.identifier ≡ Less → with_item item (x ∷ []) ≡ x ∷ item ∷ []
put_behind x item h =
    with_item-around item (x ∷ []) [] [] (record { below = and_from (is_lt (place_cmp x item.stamp item.identifier)) true (ap is_lt h) refl; above = refl })
    ∙ ap (λ zs. x ∷ (zs ++ [])) (put_none item)

put_before : (x item : ItemState) → place_cmp x item.stamp item.identifier ≡ Greater → with_item item (x ∷ []) ≡ item ∷ x ∷ []
put_before x item h =
    with_item-around item [] [] (x ∷ []) (record { below = refl; above = and_from (is_gt (place_cmp x item.stamp item.identifier)) true (ap is_gt h) refl })
    ∙ ap (λ zs. zs ++ (x ∷ [])) (put_none item)

put_instead : (x item : ItemState) → place_cmp x item.stamp item.identifier ≡ Equal → with_item item (x ∷ []) ≡ item ∷ []
put_instead x item h = with_item-found item (x ∷ []) 0 item (omega arith, λ _. h, record { below = refl; above = refl })

module _ (pages : Pages) (places : List PlaceState) (item : ItemState) (at : ℕ) (h : IsDirectory pages places) (within : at < length places) (belongs : BelongsAt places item.stamp item.identifier at)
    (one : IsLone pages (get_or places at no_place)) where
  abbrev own : List ItemState
  own = items_at pages (get_or places at no_place)

  abbrev before : List ItemState
  before = items_on pages (take at places)

  abbrev behind : List ItemState
  behind = items_on pages (drop (at + 1) places)

  cut : with_item item (items_on pages places) ≡ before ++ (with_item item own ++ behind)
  cut = with_item-cut pages places item at h within belongs

  -- in its place
  pub puts_instead : first_cmp (get_or places at no_place) item.stamp item.identifier ≡ Equal → PutsAt pages places item at 1
  puts_instead same =
      let is : with_item item own ≡ item ∷ [] = ap (with_item item) one.items ∙ put_instead one.item item (one.key item.stamp item.identifier ∙ same) in
      sym (cut ∙ ap (λ zs. before ++ (zs ++ behind)) is)

  -- behind it
  pub puts_behind : first_cmp (get_or places at no_place) item.stamp item.identifier ≡ Less → PutsAt pages places item (at + 1) 0
  puts_behind less =
      let is : with_item item own ≡ own ++ item ∷ [] = ap (with_item item) one.items ∙ put_behind one.item item (one.key item.stamp item.identifier ∙ less) ∙ ap (λ xs. xs ++ item ∷ []) (sym one.items) in
      let front : items_on pages (take (at + 1) places) ≡ before ++ own =
      ap (items_on pages) (take_more places at no_place within) ∙ items_on-append pages (take at places) (get_or places at no_place ∷ [])
      ∙ ap (λ zs. before ++ zs) (items_on-cons pages (get_or places at no_place) [] ∙ ap (λ zs. own ++ zs) (items_on-nil pages) ∙ append-nil own) in
      let rest : at + 1 + 0 ≡ at + 1 = omega arith in
      (λ i. front i ++ ((item ∷ []) ++ items_on pages (drop (rest i) places)))
      ∙ append_assoc before own ((item ∷ []) ++ behind)
      ∙ ap (λ zs. before ++ zs) (sym (append_assoc own (item ∷ []) behind))
      ∙ sym (cut ∙ ap (λ zs. before ++ (zs ++ behind)) is)

  -- before it
  pub puts_before : first_cmp (get_or places at no_place) item.stamp item.identifier ≡ Greater → PutsAt pages places item at 0
  puts_before more =
      let is : with_item item own ≡ item ∷ own = ap (with_item item) one.items ∙ put_before one.item item (one.key item.stamp item.identifier ∙ more) ∙ ap (λ xs. item ∷ xs) (sym one.items) in
      let rest : at + 0 ≡ at = omega arith in
      let back : items_on pages (drop at places) ≡ own ++ behind = ap (items_on pages) (drop_more places at no_place within) ∙ items_on-cons pages (get_or places at no_place) (drop (at + 1) places) in
      (λ i. before ++ ((item ∷ []) ++ items_on pages (drop (rest i) places)))
      ∙ ap (λ zs. before ++ (item ∷ zs)) back
      ∙ sym (cut ∙ ap (λ zs. before ++ (zs ++ behind)) is)

-- ---- what is taken out

found_one : (x : ItemState) (stamp : ℤ) (identifier : List ℕ) → place_cmp x stamp identifier ≡ Equal → (item_at stamp identifier (x ∷ []) ≡ Some x) × (without_at stamp identifier (x ∷ []) ≡ [])
found_one x stamp identifier h = (
  item_at-found stamp identifier (x ∷ []) 0 x (omega arith, λ _. h, record { below = refl; above = refl }),
  without_at-found stamp identifier (x ∷ []) 0 x (omega arith, λ _. h, record { below = refl; above = refl }),
)

module _ (pages : Pages) (places : List PlaceState) (stamp : ℤ) (identifier : List ℕ) (at : ℕ) (h : IsDirectory pages places) (within : at < length places) (belongs : BelongsAt places stamp identifier at)
    (one : IsLone pages (get_or places at no_place)) (same : first_cmp (get_or places at no_place) stamp identifier ≡ Equal) where
  found : (item_at stamp identifier (one.item ∷ []) ≡ Some one.item) × (without_at stamp identifier (one.item ∷ []) ≡ [])
  found = found_one one.item stamp identifier (one.key stamp identifier ∙ same)

  pub lone_left : [] ≡ without_at stamp identifier (items_at pages (get_or places at no_place))
  lone_left = sym (ap (without_at stamp identifier) one.items ∙ found.1)

  pub may_stand_left : MayStand pages places at 1 []
  may_stand_left =
      ap are_in_order (sym (without_at-cut pages places stamp identifier at h within belongs ∙ ap (λ zs. items_on pages (take at places) ++ (zs ++ items_on pages (drop (at + 1) places))) (sym lone_left)))
      ∙ in_order-without_at stamp identifier (items_on pages places) h.rising

  pub lone_was : true ≡ is_some (item_at stamp identifier (items_on pages places))
  lone_was = sym (ap is_some (item_at-cut pages places stamp identifier at h within belongs ∙ ap (item_at stamp identifier) one.items ∙ found.0))

pub lone_removed : (pages now : Pages) (stamp : ℤ) (identifier : List ℕ) (at : ℕ) (before after : List PlaceState) → IsDirectory pages before → at < length before → BelongsAt before stamp identifier at
    → IsLone pages (get_or before at no_place) → first_cmp (get_or before at no_place) stamp identifier ≡ Equal → items_on now after ≡ items_with_run pages before at 1 []
    → IsRemoved stamp identifier true (items_on pages before) (items_on now after)
lone_removed pages now stamp identifier at before after h within belongs one same is = record {
  was = lone_was pages before stamp identifier at h within belongs one same;
  left =
      is
      ∙ ap (λ zs. items_on pages (take at before) ++ (zs ++ items_on pages (drop (at + 1) before))) (lone_left pages before stamp identifier at h within belongs one same)
      ∙ sym (without_at-cut pages before stamp identifier at h within belongs);
}

-- ---- a test of an order

pub equal_from : (o : Ordering) → not (ordering_index o == 1) ≡ false → o ≡ Equal
equal_from Less h = cc
equal_from Equal h = refl
equal_from Greater h = cc

pub unequal_from : (o : Ordering) → not (ordering_index o == 1) ≡ true → is_eq o ≡ false
unequal_from Less h = refl
unequal_from Equal h = cc
unequal_from Greater h = refl
