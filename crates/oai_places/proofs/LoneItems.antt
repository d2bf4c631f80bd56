-- A place whose item has overflow pages has that item alone: what is found there, and what is known of it without reading.
use Rattle.std.proofs.Common.{◌≡◌, ◌∙◌, ◌⊎◌, inl, inr, ◌&&◌, ◌-◌, ◌<◌, ℕ, ℤ, suc, zero, Bool, true, false, List, [], ◌∷◌, ◌++◌, None, Some, length, take, drop, get_or, refl, sym, ap, subst, arith}
use Rattle.std.specs.Prelude.{filter, int_le}
use Rattle.std.specs.Ordering.{int_eq, is_eq, is_gt}
use Rattle.std.specs.Str.{bytes_eq}
use Rattle.std.proofs.lemmas.Bool.{and_parts, cond-false}
use Rattle.std.proofs.lemmas.Bool.Decides.{Decides-int_eq}
use Rattle.std.proofs.lemmas.List.Elements.{filter-append}
use Rattle.std.proofs.lemmas.Slice.Eq.{bytes_eq-Decides}
use Rattle.oai_item.specs.Item.{ItemState, has_record}
use Rattle.oai_item.specs.Selection.{Filter, is_in_given, passes}
use Rattle.oai_item.specs.Items.{is_at, item_at}
use Rattle.oai_item.specs.Order.{place_cmp}
use Rattle.oai_item.proofs.Around.{only_place}
use Rattle.oai_item.proofs.OrderLemmas.{is_at-Equal}
use Rattle.oai_places.specs.Directory.{IsDirectory}
use Rattle.oai_places.specs.Pages.{begins_at}
use Rattle.oai_places.specs.Places.{IsSoundPlace, Pages, PlaceState, first_cmp, is_wanted, items_at}
use Rattle.oai_places.specs.Parts.{IsOutside, IsPartTaken}
use Rattle.oai_places.specs.Searches.{BelongsAt}
use Rattle.oai_places.proofs.DirectoryLemmas.{no_place, placed-cut}
use Rattle.oai_places.proofs.ReadPlaces.{placed_at}

-- ---- the item

-- the one item of a place, at the place's datestamp and identifier
pub record IsLone (pages : Pages) (p : PlaceState) : Type 0 where
  pub item : ItemState
  pub items : items_at pages p ≡ item ∷ []
  pub dated : item.stamp ≡ p.stamp
  pub key : (stamp : ℤ) (identifier : List ℕ) → place_cmp item stamp identifier ≡ first_cmp p stamp identifier

same_key : (stamp : ℤ) (identifier : List ℕ) (x : ItemState) → is_at stamp identifier x ≡ true → (x.stamp ≡ stamp) × (x.identifier ≡ identifier)
same_key stamp identifier x h =
    let parts = and_parts (int_eq x.stamp stamp) (bytes_eq x.identifier identifier) h in
    ((Decides-int_eq x.stamp stamp).0 parts.0, (bytes_eq-Decides x.identifier identifier).0 parts.1)

lone_of : (pages : Pages) (p : PlaceState) (items : List ItemState) → items_at pages p ≡ items → length items ≡ 1 → begins_at p.stamp p.identifier items ≡ true → IsLone pages p
lone_of pages p [] is one begins = absurd (omega (arith, one))
lone_of pages p (x ∷ y ∷ items) is one begins = absurd (omega (arith, one))
lone_of pages p (x ∷ []) is one begins =
    let key = same_key p.stamp p.identifier x begins in
    record {
      item = x;
      items = is;
      dated = key.0;
      key = λ stamp identifier i. place_cmp (only_place (key.0 i) (key.1 i)) stamp identifier;
    }

pub lone : (pages : Pages) (p : PlaceState) → IsSoundPlace pages p → 1 < length p.pages → IsLone pages p
lone pages p h long = lone_of pages p (items_at pages p) refl (h.many.alone long) h.begins

pub lone_at : (pages : Pages) (places : List PlaceState) (at : ℕ) (p : PlaceState) → IsDirectory pages places → at < length places → p ≡ get_or places at p → 1 < length p.pages → IsLone pages (get_or places at no_place)
lone_at pages places at p h within is long =
    subst (λ (q : PlaceState). IsLone pages q) (is ∙ same places at within) (lone pages p (placed_at pages places at p h within is) long) where
      same : (places : List PlaceState) (at : ℕ) → at < length places → get_or places at p ≡ get_or places at no_place
      same [] at within = absurd (omega (arith, within))
      same (q ∷ places) zero within = refl
      same (q ∷ places) (suc at) within = same places at (omega (arith, within))

-- ---- what is found

lone_missing : (x : ItemState) (stamp : ℤ) (identifier : List ℕ) → is_at stamp identifier x ≡ false → item_at stamp identifier (x ∷ []) ≡ None
unfolding item_at
lone_missing x stamp identifier h = cond-false (is_at stamp identifier x) (Some x) None h

pub lone_other : (pages : Pages) (places : List PlaceState) (stamp : ℤ) (identifier : List ℕ) (at : ℕ) → IsDirectory pages places → at < length places → BelongsAt places stamp identifier at
    → (one : IsLone pages (get_or places at no_place)) → is_eq (first_cmp (get_or places at no_place) stamp identifier) ≡ false → item_at stamp identifier (items_at pages (get_or places at no_place)) ≡ None
lone_other pages places stamp identifier at h within belongs one other =
    ap (item_at stamp identifier) one.items
    ∙ lone_missing one.item stamp identifier (is_at-Equal stamp identifier one.item ∙ ap is_eq (one.key stamp identifier) ∙ other)

-- ---- what is not wanted

not_both : (a b : Bool) → a ≡ false → (a && b) ≡ false
not_both true b h = cc
not_both false b h = refl

not_wanted : (asked : Filter) (stamp : ℤ) (identifier : List ℕ) (x : ItemState) → (int_le asked.lower x.stamp ≡ false) ⊎ (is_gt (place_cmp x stamp identifier) ≡ false) → is_wanted asked stamp identifier x ≡ false
not_wanted asked stamp identifier x (inr early) = not_both (is_gt (place_cmp x stamp identifier)) (passes asked x) early
not_wanted asked stamp identifier x (inl low) =
    both (is_gt (place_cmp x stamp identifier)) (passes asked x)
    (after (has_record asked.prefix x.formats) (int_le asked.lower x.stamp) (int_le x.stamp asked.upper) (is_in_given asked.set x.sets) low) where
      both : (a b : Bool) → b ≡ false → (a && b) ≡ false
      both true b h = h
      both false b h = refl

      after : (a b c d : Bool) → b ≡ false → (a && b && c && d) ≡ false
      after true true c d h = cc
      after true false c d h = refl
      after false b c d h = refl

none_of : (p : ItemState → Bool) (x : ItemState) → p x ≡ false → filter p (x ∷ []) ≡ []
none_of p x h = cond-false (p x) (x ∷ []) [] h

pub outside_none : (pages : Pages) (places : List PlaceState) (asked : Filter) (stamp : ℤ) (identifier : List ℕ) (at : ℕ) → IsDirectory pages places → at < length places → IsOutside places at asked stamp identifier
    → (d : PlaceState) → filter (is_wanted asked stamp identifier) (items_at pages (get_or places at d)) ≡ []
outside_none pages places asked stamp identifier at h within out d =
    let p : PlaceState = get_or places at d in
    let one = lone pages p (placed-cut pages places at d within h.placed).0 (out.long d) in
    let x : ItemState = one.item in
    let seen : (int_le asked.lower x.stamp ≡ false) ⊎ (is_gt (place_cmp x stamp identifier) ≡ false) =
    carry (out.out d) (ap (λ (z : ℤ). int_le asked.lower z) one.dated) (ap is_gt (one.key stamp identifier)) in
    ap (filter (is_wanted asked stamp identifier)) one.items ∙ none_of (is_wanted asked stamp identifier) x (not_wanted asked stamp identifier x seen) where
      carry : {a b x y : Bool} → (a ≡ false) ⊎ (b ≡ false) → x ≡ a → y ≡ b → (x ≡ false) ⊎ (y ≡ false)
      carry (inl e) f g = inl (f ∙ e)
      carry (inr e) f g = inr (g ∙ e)

-- and so none is taken of it
pub outside_past : (wanted : ItemState → Bool) (most : ℕ) (part : List ItemState) (skip : ℕ) (items : List ItemState) → filter wanted items ≡ [] → IsPartTaken wanted most part part skip skip items
outside_past wanted most part skip items none rest =
    ap (λ zs. part ++ take (most - length part) (drop skip zs)) (sym (filter-append wanted items rest ∙ ap (λ zs. zs ++ filter wanted rest) none))
