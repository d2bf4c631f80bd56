-- The places of a directory that may have wanted items, and those of which all items are.
use Rattle.std.specs.Prelude.{filter, int_le, length}
use Rattle.std.proofs.Common.{◌≡◌, ◌∙◌, ◌+◌, ◌-◌, ◌<◌, ◌≤◌, ◌≤ℤ◌, ◌⊎◌, inl, inr, ⊎_elim, ℕ, ℤ, pos, suc, zero, Bool, true, false, cond, not, ◌==◌, List, [], ◌∷◌, ◌++◌, take, drop, get_or, refl, sym, ap, subst, arith}
use Rattle.std.specs.List.{AllByRecursion, list_all}
use Rattle.std.specs.Ordering.{is_gt, is_lt, ordering_index}
use Rattle.std.specs.declared.cmp.Ordering.{Ordering}
use Rattle.std.specs.declared.cmp.Ordering.TheVariants.{Less, Equal, Greater}
use lib.Signed.{lt_z}
use Rattle.std.proofs.lemmas.Bool.{and_from, and_parts, cases_lt, false_from_ne_true, not_from_false}
use Rattle.std.proofs.lemmas.Int.{ints}
use Rattle.std.proofs.lemmas.List.{drop_all, drop_more, get_or_read, take-append-drop}
use Rattle.oai_names.proofs.Lists.{all-weaker, filter_none}
use Rattle.oai_item.specs.Item.{ItemState, has_record}
use Rattle.oai_names.specs.Names.{is_among}
use Rattle.oai_item.specs.Order.{are_in_order, place_cmp}
use Rattle.oai_item.specs.Selection.{Filter, is_in_given}
use Rattle.oai_item.proofs.Around.{in_order-append}
use Rattle.oai_places.specs.Directory.{IsDirectory}
use Rattle.oai_places.specs.Pages.{AreStorable, begins_at}
use Rattle.oai_places.specs.Parts.{EndsBy, IsInside}
use Rattle.oai_places.specs.Places.{IsSoundPlace, Pages, PlaceState, are_below, first_cmp, is_wanted, items_at, items_on}
use Rattle.oai_places.specs.Searches.{StartsAt}
use Rattle.oai_places.proofs.DirectoryLemmas.{goes_on, items-cut, no_place, placed-cut}
use Rattle.oai_places.proofs.OrderedPlaces.{GoesOn, all_above, below_place, own_below}
use Rattle.std.proofs.lemmas.List.Elements.{filter-append}
use Rattle.oai_places.proofs.PlaceLemmas.{items_on-append, items_on-cons, items_on-nil, placed-parts}
use Rattle.oai_places.proofs.WantedLemmas.{earlier, earlier_stamp, not_behind, prefix_of_each, stamps_from, too_early, too_late, wanted_given}

-- before the place at which a search starts no item is wanted
pub none_before : (pages : Pages) (places : List PlaceState) (asked : Filter) (stamp : ℤ) (identifier : List ℕ) (at : ℕ) → IsDirectory pages places → StartsAt places asked stamp identifier at
    → filter (is_wanted asked stamp identifier) (items_on pages (take at places)) ≡ []
none_before pages places asked stamp identifier zero h starts = ap (filter (is_wanted asked stamp identifier)) (items_on-nil pages)
none_before pages places asked stamp identifier (suc at) h starts =
    let within : suc at < length places = starts.within (omega_some (cases_lt 0 (length places))) in
    let q : PlaceState = get_or places (suc at) no_place in
    let before = items_on pages (take (suc at) places) in
    let own = items_at pages q in
    let behind = items_on pages (drop (suc at + 1) places) in
    let parts = placed-cut pages places (suc at) no_place within h.placed in
    let rising : are_in_order (before ++ (own ++ behind)) ≡ true = sym (ap are_in_order (items-cut pages places (suc at) no_place within)) ∙ h.rising in
    filter_none (is_wanted asked stamp identifier) before
    (⊎_elim
    (λ low. all-weaker (λ (x : ItemState). is_lt (place_cmp x asked.lower [])) (λ x. not (is_wanted asked stamp identifier x))
    (λ x below. not_from_false (is_wanted asked stamp identifier x) (too_early asked stamp identifier x (earlier asked.lower x below))) before
    (below_place q.stamp asked.lower q.identifier [] before own behind rising parts.0.begins (inr low)))
    (λ low. all-weaker (λ (x : ItemState). is_lt (place_cmp x stamp identifier)) (λ x. not (is_wanted asked stamp identifier x))
    (λ x below. not_from_false (is_wanted asked stamp identifier x) (not_behind asked stamp identifier x below)) before
    (below_place q.stamp stamp q.identifier identifier before own behind rising parts.0.begins (inr low)))
    (starts.before (omega arith) no_place)) where
      omega_some : (0 < length places) ⊎ (length places ≤ 0) → 0 < length places
      omega_some (inl some) = some
      omega_some (inr none) = absurd (omega (arith, starts.first (omega (arith, none))))

-- from a place on that begins behind the upper bound no item is wanted
pub none_behind : (pages : Pages) (places : List PlaceState) (asked : Filter) (stamp : ℤ) (identifier : List ℕ) (at : ℕ) → IsDirectory pages places → at < length places
    → int_le (get_or places at no_place).stamp asked.upper ≡ false → filter (is_wanted asked stamp identifier) (items_on pages (drop at places)) ≡ []
none_behind pages places asked stamp identifier at h within late =
    let q : PlaceState = get_or places at no_place in
    let rest = items_on pages (drop at places) in
    let placed : AllByRecursion (IsSoundPlace pages) (drop at places) = (placed-parts pages (take at places) (drop at places) (subst (AllByRecursion (IsSoundPlace pages)) (sym (take-append-drop at places)) h.placed)).1 in
    let rising : are_in_order rest ≡ true =
    (in_order-append (items_on pages (take at places)) rest (sym (ap are_in_order (ap (items_on pages) (sym (take-append-drop at places)) ∙ items_on-append pages (take at places) (drop at places))) ∙ h.rising)).1 in
    let goes : begins_at q.stamp q.identifier rest ≡ true = subst (λ (ps : List PlaceState). GoesOn ps rest) (drop_more places at no_place within) (goes_on pages (drop at places) placed) in
    filter_none (is_wanted asked stamp identifier) rest
    (all-weaker (λ (x : ItemState). int_le q.stamp x.stamp) (λ x. not (is_wanted asked stamp identifier x))
    (λ x later. not_from_false (is_wanted asked stamp identifier x) (too_late asked stamp identifier x (false_from_ne_true (int_le x.stamp asked.upper) (λ low. int_chain q.stamp x.stamp asked.upper later low late)))) rest
    (stamps_from q.stamp q.identifier rest rising goes)) where
      int_chain : (a b c : ℤ) → int_le a b ≡ true → int_le b c ≡ true → int_le a c ≡ false → ⊥
      int_chain a b c ab bc ac = grind (arith, ints)

-- ---- places of which all items are wanted

last_stamp : (items : List ItemState) → AreStorable items → list_all (λ (x : ItemState). int_le x.stamp (pos 253_402_300_799)) items ≡ true
last_stamp [] h = refl
last_stamp (x ∷ items) h = and_from (int_le x.stamp (pos 253_402_300_799)) (list_all (λ (y : ItemState). int_le y.stamp (pos 253_402_300_799)) items) (le_test h.0.valid.stamped.1) (last_stamp items h.1) where
  le_test : x.stamp ≤ℤ pos 253_402_300_799 → int_le x.stamp (pos 253_402_300_799) ≡ true
  le_test le = grind (arith, ints)

int_trans : (a b c : ℤ) → int_le a b ≡ true → b ≤ℤ c → int_le a c ≡ true
int_trans a b c ab bc = grind (arith, ints)

int_trans_left : (a b c : ℤ) → a ≤ℤ b → int_le b c ≡ true → int_le a c ≡ true
int_trans_left a b c ab bc = grind (arith, ints)

-- items before the next places, which end by then
ended_by : (next : List PlaceState) (items : List ItemState) (upper : ℤ) → AreStorable items → are_below items next ≡ true → EndsBy next upper → list_all (λ (x : ItemState). int_le x.stamp upper) items ≡ true
ended_by [] items upper stored below ends =
    all-weaker (λ (x : ItemState). int_le x.stamp (pos 253_402_300_799)) (λ x. int_le x.stamp upper) (λ x le. int_trans x.stamp (pos 253_402_300_799) upper le ends) items (last_stamp items stored)
ended_by (next ∷ _) items upper stored below ends =
    all-weaker (λ (x : ItemState). is_lt (place_cmp x next.stamp next.identifier)) (λ x. int_le x.stamp upper)
    (λ x before. int_trans x.stamp next.stamp upper (earlier_stamp next.stamp next.identifier x before) ends) items below

alike_where : (a b c d p q : ItemState → Bool) → ((x : ItemState) → a x ≡ true → b x ≡ true → c x ≡ true → d x ≡ true → p x ≡ q x) → (xs : List ItemState)
    → list_all a xs ≡ true → list_all b xs ≡ true → list_all c xs ≡ true → list_all d xs ≡ true → filter p xs ≡ filter q xs
alike_where a b c d p q so [] ha hb hc hd = refl
alike_where a b c d p q so (x ∷ xs) ha hb hc hd =
    let pa = and_parts (a x) (list_all a xs) ha in
    let pb = and_parts (b x) (list_all b xs) hb in
    let pc = and_parts (c x) (list_all c xs) hc in
    let pd = and_parts (d x) (list_all d xs) hd in
    ap (λ t. cond t (x ∷ filter p xs) (filter p xs)) (so x pa.0 pb.0 pc.0 pd.0)
    ∙ ap (λ zs. cond (q x) (x ∷ zs) zs) (alike_where a b c d p q so xs pa.1 pb.1 pc.1 pd.1)

-- then those are wanted that are in the set, where one is given
pub inside_given : (pages : Pages) (places : List PlaceState) (asked : Filter) (stamp : ℤ) (identifier : List ℕ) (at : ℕ) (d : PlaceState) → IsDirectory pages places → at < length places
    → IsInside places at asked stamp identifier
    → filter (is_wanted asked stamp identifier) (items_at pages (get_or places at d)) ≡ filter (λ (x : ItemState). is_in_given asked.set x.sets) (items_at pages (get_or places at d))
inside_given pages places asked stamp identifier at d h within inside =
    let q : PlaceState = get_or places at d in
    let before = items_on pages (take at places) in
    let own = items_at pages q in
    let next = drop (at + 1) places in
    let behind = items_on pages next in
    let parts = placed-cut pages places at d within h.placed in
    let rising : are_in_order (before ++ (own ++ behind)) ≡ true = sym (ap are_in_order (items-cut pages places at d within)) ∙ h.rising in
    let inner : are_in_order (own ++ behind) ≡ true = (in_order-append before (own ++ behind) rising).1 in
    let own_rising : are_in_order own ≡ true = (in_order-append own behind inner).0 in
    alike_where (λ x. is_gt (place_cmp x stamp identifier)) (λ x. has_record asked.prefix x.formats) (λ x. int_le q.stamp x.stamp) (λ x. int_le x.stamp asked.upper) (is_wanted asked stamp identifier)
    (λ x. is_in_given asked.set x.sets)
    (λ x is_behind has from until. wanted_given asked stamp identifier x is_behind has (int_trans_left asked.lower q.stamp x.stamp (inside.lower d) from) until) own
    (all_above (q ∷ []) stamp identifier own own_rising parts.0.begins (inside.behind d))
    (prefix_of_each asked.prefix q.prefixes own parts.0.common (inside.prefix d))
    (stamps_from q.stamp q.identifier own own_rising parts.0.begins)
    (ended_by next own asked.upper parts.0.page.fit.storable (own_below next own behind inner (goes_on pages next parts.1)) inside.upper)

-- ---- what the code tests, as it is said of a place

greater_is : (o : Ordering) → is_gt o ≡ not (not (ordering_index o == 2))
greater_is Less = refl
greater_is Equal = refl
greater_is Greater = refl

pub greater_from : (o : Ordering) → not (ordering_index o == 2) ≡ false → is_gt o ≡ true
greater_from o h = greater_is o ∙ ap not h

pub not_greater_from : (o : Ordering) → not (ordering_index o == 2) ≡ true → is_gt o ≡ false
not_greater_from o h = greater_is o ∙ ap not h

pub not_lower : (a b : ℤ) → lt_z a b ≡ false → b ≤ℤ a
not_lower a b h = grind (arith, ints)

pub lower_from : (a b x y : ℤ) → lt_z b a ≡ false → a ≡ x → b ≡ y → x ≤ℤ y
lower_from a b x y test ax by = subst (λ (v : ℤ). v ≤ℤ y) ax (subst (λ (w : ℤ). a ≤ℤ w) by (not_lower b a test))

-- a place that passed each test
pub inside_from : (places : List PlaceState) (asked : Filter) (stamp : ℤ) (identifier : List ℕ) (at : ℕ) (p : PlaceState) → at < length places → p ≡ get_or places at p
    → asked.lower ≤ℤ p.stamp → is_gt (first_cmp p stamp identifier) ≡ true → is_among p.prefixes asked.prefix ≡ true → EndsBy (drop (at + 1) places) asked.upper
    → IsInside places at asked stamp identifier
inside_from places asked stamp identifier at p within is lower behind among ends = record {
  lower = λ d. subst (λ (q : PlaceState). asked.lower ≤ℤ q.stamp) (get_or_read places at p within is d) lower;
  behind = λ d. subst (λ (q : PlaceState). is_gt (first_cmp q stamp identifier) ≡ true) (get_or_read places at p within is d) behind;
  prefix = λ d. subst (λ (q : PlaceState). is_among q.prefixes asked.prefix ≡ true) (get_or_read places at p within is d) among;
  upper = ends;
}

-- ---- the wanted items from a place on

pub wanted_start : (pages : Pages) (places : List PlaceState) (asked : Filter) (stamp : ℤ) (identifier : List ℕ) (at : ℕ) → IsDirectory pages places → StartsAt places asked stamp identifier at
    → filter (is_wanted asked stamp identifier) (items_on pages (drop at places)) ≡ filter (is_wanted asked stamp identifier) (items_on pages places)
wanted_start pages places asked stamp identifier at h starts =
    let p : ItemState → Bool = is_wanted asked stamp identifier in
    sym
    (ap (λ ps. filter p (items_on pages ps)) (sym (take-append-drop at places))
    ∙ ap (filter p) (items_on-append pages (take at places) (drop at places))
    ∙ filter-append p (items_on pages (take at places)) (items_on pages (drop at places))
    ∙ ap (λ zs. zs ++ filter p (items_on pages (drop at places))) (none_before pages places asked stamp identifier at h starts))

pub wanted_step : (p : ItemState → Bool) (pages : Pages) (places : List PlaceState) (at : ℕ) (d : PlaceState) → at < length places
    → filter p (items_on pages (drop at places)) ≡ filter p (items_at pages (get_or places at d)) ++ filter p (items_on pages (drop (at + 1) places))
wanted_step p pages places at d within =
    ap (λ ps. filter p (items_on pages ps)) (drop_more places at d within)
    ∙ ap (filter p) (items_on-cons pages (get_or places at d) (drop (at + 1) places))
    ∙ filter-append p (items_at pages (get_or places at d)) (items_on pages (drop (at + 1) places))

pub wanted_end : (p : ItemState → Bool) (pages : Pages) (places : List PlaceState) (at : ℕ) → length places ≤ at → filter p (items_on pages (drop at places)) ≡ []
wanted_end p pages places at all = ap (λ ps. filter p (items_on pages ps)) (drop_all at places all) ∙ ap (filter p) (items_on-nil pages)

-- the items of places are stored ones
pub stored_items : (pages : Pages) (places : List PlaceState) → AllByRecursion (IsSoundPlace pages) places → AreStorable (items_on pages places)
stored_items pages [] h = subst AreStorable (sym (items_on-nil pages)) tt
stored_items pages (place ∷ places) h =
    subst AreStorable (sym (items_on-cons pages place places)) (stored-append (items_at pages place) (items_on pages places) h.0.page.fit.storable (stored_items pages places h.1)) where
      stored-append : (xs ys : List ItemState) → AreStorable xs → AreStorable ys → AreStorable (xs ++ ys)
      stored-append [] ys a b = b
      stored-append (x ∷ xs) ys a b = (a.0, stored-append xs ys a.1 b)

-- ---- a place that begins behind the upper bound, as the code tests it

not_le : (a b : ℤ) → lt_z a b ≡ true → int_le b a ≡ false
not_le a b h = grind (arith, ints)

pub none_late : (pages : Pages) (places : List PlaceState) (asked : Filter) (stamp : ℤ) (identifier : List ℕ) (at : ℕ) (p : PlaceState) (upper first : ℤ) → IsDirectory pages places → at < length places
    → p ≡ get_or places at p → lt_z upper first ≡ true → upper ≡ asked.upper → first ≡ p.stamp → filter (is_wanted asked stamp identifier) (items_on pages (drop at places)) ≡ []
none_late pages places asked stamp identifier at p upper first h within is test same dated =
    none_behind pages places asked stamp identifier at h within
    (sym (λ i. int_le ((dated ∙ ap (λ (q : PlaceState). q.stamp) (get_or_read places at p within is no_place)) i) (same i)) ∙ not_le upper first test)

-- ---- counted place by place

pub counting_starts : (pages : Pages) (places : List PlaceState) (asked : Filter) (stamp : ℤ) (identifier : List ℕ) (at : ℕ) → IsDirectory pages places → StartsAt places asked stamp identifier at
    → 0 + length (filter (is_wanted asked stamp identifier) (items_on pages (drop at places))) ≡ length (filter (is_wanted asked stamp identifier) (items_on pages places))
counting_starts pages places asked stamp identifier at h starts = omega (arith, ap length (wanted_start pages places asked stamp identifier at h starts))

pub counting_ends : (total whole : ℕ) (rest : List ItemState) → rest ≡ [] → total + length rest ≡ whole → total ≡ whole
counting_ends total whole rest none h = omega (arith, h, ap length none)

-- ---- taken place by place

pub taking_starts : (pages : Pages) (places : List PlaceState) (asked : Filter) (stamp : ℤ) (identifier : List ℕ) (at most skip : ℕ) (part : List ItemState) → IsDirectory pages places
    → StartsAt places asked stamp identifier at → part ≡ []
    → part ++ take (most - length part) (drop skip (filter (is_wanted asked stamp identifier) (items_on pages (drop at places))))
    ≡ take most (drop skip (filter (is_wanted asked stamp identifier) (items_on pages places)))
taking_starts pages places asked stamp identifier at most skip part h starts none =
    let left : List ItemState = filter (is_wanted asked stamp identifier) (items_on pages (drop at places)) in
    let all : most - length {A = ItemState} [] ≡ most = omega arith in
    ap (λ (xs : List ItemState). xs ++ take (most - length xs) (drop skip left)) none
    ∙ ap (λ m. take m (drop skip left)) all
    ∙ ap (λ zs. take most (drop skip zs)) (wanted_start pages places asked stamp identifier at h starts)
