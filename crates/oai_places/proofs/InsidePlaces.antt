-- Places of which all items are wanted: they are counted and passed over by their number.
use Rattle.std.proofs.Common.{◌≡◌, ◌∙◌, ◌==◌, false, ◌∷◌, ◌-◌, ◌<◌, ◌≤◌, ℕ, ℤ, Bool, List, [], Option, None, Some, ◌⊎◌, ⊎_elim, length, get_or, refl, sym, ap, subst, arith, true, inl, inr}
use Rattle.std.specs.Prelude.{HoldsAt, IfSome, filter, option_map}
use Rattle.std.proofs.lemmas.Bool.{and_from, cases_Bool, cases_lt, cond-false, cond-true}
use Rattle.std.proofs.lemmas.List.{get_or_read}
use Rattle.std.specs.List.{AllByRecursion, list_all}
use Rattle.std.specs.Ordering.{is_gt}
use Rattle.oai_item.specs.Item.{IsStamp, ItemState}
use Rattle.oai_item.specs.Items.{item_at, items_after}
use Rattle.oai_item.specs.Order.{place_cmp}
use Rattle.oai_item.specs.Selection.{Filter, is_in_given, passes, selected}
use Rattle.oai_places.specs.Directory.{IsDirectory}
use Rattle.oai_places.specs.Pages.{fit_one}
use Rattle.oai_places.specs.Parts.{IsInside, IsKnown, IsPartTaken}
use Rattle.oai_places.specs.Picking.{IsPickable}
use Rattle.oai_places.specs.Places.{AreSetCounts, IsSoundPlace, Pages, PlaceState, is_wanted, items_at, items_on, known_in, span_at}
use Rattle.oai_sums.specs.Sums.{SetTotal, count_in_set, counted_in}
use Rattle.oai_sums.specs.declared.spans.Span.{Span}
use Rattle.oai_places.specs.Searches.{BelongsAt}
use Rattle.oai_places.specs.declared.sizes.TheConstants.{MAX_ENTRY_BYTES}
use Rattle.oai_places.proofs.DirectoryLemmas.{item_at-cut, no_place, placed-cut}
use Rattle.oai_places.proofs.PageLemmas.{size_of-least}
use Rattle.oai_places.proofs.PartLemmas.{fewer, filter_alike, filter_both, taken_past}
use Rattle.oai_places.proofs.PlaceLemmas.{items_on-nil}
use Rattle.oai_places.proofs.ShortLemmas.{fit_parts}
use Rattle.oai_places.proofs.WantedPlaces.{inside_given, stored_items}
use Rattle.oai_places.proofs.WantedLemmas.{given_from}
use Rattle.oai_places.proofs.LoneItems.{outside_none}
use Rattle.oai_item.specs.Membership.{is_in}

-- items on one page are not more than its bytes
pub few_items : (items : List ItemState) → fit_one items ≡ true → length items ≤ MAX_ENTRY_BYTES
few_items items fits = omega (arith, size_of-least items, (fit_parts items fits).0)

-- and so a place has not more items
few_in : (pages : Pages) (p : PlaceState) → IsSoundPlace pages p → p.len ≤ MAX_ENTRY_BYTES
few_in pages p placed =
    elim (cases_lt 1 (length p.pages)) [
      | inl long ↦ omega (arith, placed.counted, placed.many.alone long)
      | inr one ↦ omega (arith, placed.counted, few_items (items_at pages p) (placed.many.one one))
    ]

-- ---- what is known of a place

some_one : {A : Type 0} (a b : A) → Some a ≡ Some b → a ≡ b
some_one a b e = cc

none_some : {B : Type 0} (n : ℕ) → None ≡ Some n → B
none_some n e = absurd (let no : ⊥ = cc in no)

all_of : (items : List ItemState) → filter (λ (x : ItemState). true) items ≡ items
all_of [] = refl
all_of (x ∷ items) = ap (λ zs. x ∷ zs) (all_of items)

most_items : (p : ItemState → Bool) (items : List ItemState) → length (filter p items) ≤ length items
most_items p items = omega (arith, fewer p (λ (x : ItemState). true) (λ x h. refl) items, ap length (all_of items))

-- so many are in the set, where one is given
known_number : (pages : Pages) (q : PlaceState) (set : Option (List ℕ)) (n : ℕ) → IsSoundPlace pages q → known_in q set ≡ Some n
    → length (filter (λ (x : ItemState). is_in_given set x.sets) (items_at pages q)) ≡ n
unfolding count_in_set
known_number pages q None n h is = ap length (all_of (items_at pages q)) ∙ h.counted ∙ some_one q.len n is
known_number pages q (Some set) n h is = by_sets q.sets h.sets is where
  by_sets : (sets : Option (List SetTotal)) → AreSetCounts sets (items_at pages q) → option_map (counted_in set) sets ≡ Some n
      → length (filter (λ (x : ItemState). is_in set x.sets) (items_at pages q)) ≡ n
  by_sets None counts e = none_some n e
  by_sets (Some totals) counts e = sym ((counts totals refl).counts set) ∙ some_one (counted_in set totals) n e

-- the number that is known is that of the items that are wanted
pub known_counted : (pages : Pages) (places : List PlaceState) (asked : Filter) (stamp : ℤ) (identifier : List ℕ) (at n : ℕ) → IsDirectory pages places → at < length places
    → IsKnown places at asked stamp identifier n → (d : PlaceState) → n ≡ length (filter (is_wanted asked stamp identifier) (items_at pages (get_or places at d)))
known_counted pages places asked stamp identifier at n h within (inl out) d = out.1 ∙ sym (ap length (outside_none pages places asked stamp identifier at h within out.0 d))
known_counted pages places asked stamp identifier at n h within (inr known) d =
    let own : List ItemState = items_at pages (get_or places at d) in
    let number = known_number pages (get_or places at d) asked.set n (placed-cut pages places at d within h.placed).0 (known.0 d) in
    ⊎_elim
    (λ none. omega (arith, none, number, fewer (is_wanted asked stamp identifier) (λ (x : ItemState). is_in_given asked.set x.sets) (given_from asked stamp identifier) own))
    (λ inside. sym (ap length (inside_given pages places asked stamp identifier at d h within inside) ∙ number))
    known.1

-- and no place has more
pub known_few : (pages : Pages) (places : List PlaceState) (asked : Filter) (stamp : ℤ) (identifier : List ℕ) (at n : ℕ) → IsDirectory pages places → at < length places
    → IsKnown places at asked stamp identifier n → n ≤ MAX_ENTRY_BYTES
known_few pages places asked stamp identifier at n h within known =
    let q : PlaceState = get_or places at no_place in
    let sound = (placed-cut pages places at no_place within h.placed).0 in
    omega (arith, known_counted pages places asked stamp identifier at n h within known no_place, few_in pages q sound, sound.counted, most_items (is_wanted asked stamp identifier) (items_at pages q))

-- where so many are to be skipped, all of the place are
pub known_past : (pages : Pages) (places : List PlaceState) (asked : Filter) (stamp : ℤ) (identifier : List ℕ) (at n most : ℕ) (part : List ItemState) (skip : ℕ) → IsDirectory pages places
    → at < length places → n ≤ skip → IsKnown places at asked stamp identifier n → (d : PlaceState)
    → IsPartTaken (is_wanted asked stamp identifier) most part part skip (skip - n) (items_at pages (get_or places at d))
known_past pages places asked stamp identifier at n most part skip h within past known d =
    let wanted = is_wanted asked stamp identifier in
    let own : List ItemState = items_at pages (get_or places at d) in
    let is = known_counted pages places asked stamp identifier at n h within known d in
    subst (λ (m : ℕ). IsPartTaken wanted most part part skip (skip - m) own) (sym is) (taken_past wanted most part skip own (omega (arith, is, past)))

-- if as many are wanted as there are, all are
all_pass : (p : ItemState → Bool) (items : List ItemState) → length items ≤ length (filter p items) → list_all p items ≡ true
all_pass p [] h = refl
all_pass p (x ∷ items) h =
    elim (cases_Bool (p x)) [
      | inl passes ↦
          and_from (p x) (list_all p items) passes (all_pass p items (omega (arith, h, ap length (cond-true (p x) (x ∷ filter p items) (filter p items) passes))))
      | inr fails ↦ absurd (omega (arith, h, ap length (cond-false (p x) (x ∷ filter p items) (filter p items) fails), most_items p items))
    ]

pub all_known : (pages : Pages) (places : List PlaceState) (asked : Filter) (stamp : ℤ) (identifier : List ℕ) (at : ℕ) (d : PlaceState) → IsDirectory pages places → at < length places
    → IsKnown places at asked stamp identifier (get_or places at d).len → list_all (is_wanted asked stamp identifier) (items_at pages (get_or places at d)) ≡ true
all_known pages places asked stamp identifier at d h within known =
    let q : PlaceState = get_or places at d in
    let sound = (placed-cut pages places at d within h.placed).0 in
    all_pass (is_wanted asked stamp identifier) (items_at pages q)
    (omega (arith, known_counted pages places asked stamp identifier at q.len h within known d, sound.counted))

-- what the code finds
pub known_from : (places : List PlaceState) (asked : Filter) (stamp : ℤ) (identifier : List ℕ) (at n : ℕ) (p : PlaceState) (set : Option (List ℕ)) → at < length places → p ≡ get_or places at p → known_in p set ≡ Some n
    → set ≡ asked.set → (n ≡ 0) ⊎ IsInside places at asked stamp identifier → IsKnown places at asked stamp identifier n
known_from places asked stamp identifier at n p set within is known given so =
    inr (λ d. subst (λ (q : PlaceState). known_in q asked.set ≡ Some n) (get_or_read places at p within is d) (ap (known_in p) (sym given) ∙ known), so)

-- ---- in the words of those who ask

-- a test that agrees with the filter on each datestamp that there is
pub wanted_all : (p : ItemState → Bool) (asked : Filter) (pages : Pages) (places : List PlaceState) → AllByRecursion (IsSoundPlace pages) places → ((x : ItemState) → IsStamp x.stamp → p x ≡ passes asked x)
    → filter p (items_on pages places) ≡ selected asked (items_on pages places)
unfolding selected
wanted_all p asked pages places h same = filter_alike p (passes asked) (λ x spelled. same x spelled.valid.stamped) (items_on pages places) (stored_items pages places h)

-- what is wanted behind a datestamp and identifier
pub wanted_after : (asked : Filter) (stamp : ℤ) (identifier : List ℕ) (items : List ItemState) → filter (is_wanted asked stamp identifier) items ≡ selected asked (items_after stamp identifier items)
unfolding selected items_after
wanted_after asked stamp identifier items = sym (filter_both (passes asked) (λ (item : ItemState). is_gt (place_cmp item stamp identifier)) items)

-- what is found among items that were read is what the directory has
pub found_read : (pages : Pages) (places : List PlaceState) (stamp : ℤ) (identifier : List ℕ) (at : ℕ) (entries : List ItemState) (found : Option ItemState) → IsDirectory pages places → at < length places
    → BelongsAt places stamp identifier at → entries ≡ items_at pages (get_or places at no_place) → item_at stamp identifier entries ≡ found → found ≡ item_at stamp identifier (items_on pages places)
found_read pages places stamp identifier at entries found h within belongs read is =
    sym is ∙ ap (item_at stamp identifier) read ∙ sym (item_at-cut pages places stamp identifier at h within belongs)

nothing_at : (stamp : ℤ) (identifier : List ℕ) → item_at stamp identifier [] ≡ None
unfolding item_at
nothing_at stamp identifier = refl

pub none_found : (pages : Pages) (places : List PlaceState) (stamp : ℤ) (identifier : List ℕ) → places ≡ [] → None ≡ item_at stamp identifier (items_on pages places)
none_found pages places stamp identifier none = sym (ap (λ ps. item_at stamp identifier (items_on pages ps)) none ∙ ap (item_at stamp identifier) (items_on-nil pages) ∙ nothing_at stamp identifier)

-- ---- a directory that has some place

pub some_places : (places : List PlaceState) → (length places == 0) ≡ false → 0 < length places
some_places [] h = cc
some_places (p ∷ places) h = omega arith

-- the span that is found is one of the place
pub pickable_if : (places : List PlaceState) (at : ℕ) (place : PlaceState) (asked : Option (List ℕ)) (known found : Option Span) → at < length places → place ≡ get_or places at place → span_at place asked ≡ known
    → IfSome found (λ span. (set : Option (List ℕ)) → span_at place set ≡ known → IsPickable place set span) → IfSome found (λ span. HoldsAt (λ q. IsPickable q asked span) places at)
pickable_if places at place asked known None within is said found = tt
pickable_if places at place asked known (Some span) within is said found = λ d. subst (λ (q : PlaceState). IsPickable q asked span) (get_or_read places at place within is d) (found asked said)
