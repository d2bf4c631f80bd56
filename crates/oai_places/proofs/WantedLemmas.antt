-- Which items of a directory can be wanted, and of which places it is known without reading them.
use Rattle.std.proofs.Common.{◌≡◌, ◌∙◌, ◌<ℤ◌, ◌⊎◌, inl, inr, ⊎_elim, ℕ, ℤ, Bool, true, false, ◌&&◌, List, [], ◌∷◌, refl, sym, ap, arith}
use Rattle.std.specs.Prelude.{int_le}
use Rattle.std.specs.List.{list_all}
use Rattle.std.specs.Ordering.{int_cmp, is_gt, is_lt, nat_cmp, ordering_then}
use Rattle.std.specs.declared.cmp.Ordering.{Ordering}
use Rattle.std.specs.declared.cmp.Ordering.TheVariants.{Less, Equal, Greater}
use Rattle.std.specs.Cmp.Lexicographic.{slice_cmp}
use Rattle.std.specs.Str.{bytes_eq}
use Rattle.std.proofs.lemmas.Bool.{and_from, and_parts, both_ways, false_from_ne_true, or_cases}
use Rattle.std.proofs.lemmas.Cmp.{int_ranked}
use Rattle.std.proofs.lemmas.Int.{ints}
use Rattle.std.proofs.lemmas.Slice.Eq.{bytes_eq-Decides}
use Rattle.oai_names.proofs.Lists.{all-weaker}
use Rattle.oai_names.specs.Names.{is_among}
use Rattle.oai_item.specs.Item.{ItemState, has_record}
use Rattle.oai_item.specs.Order.{are_in_order, place_cmp, precedes}
use Rattle.oai_item.specs.Selection.{Filter, is_in_given, passes}
use Rattle.oai_item.proofs.Around.{only_place}
use Rattle.oai_item.proofs.OrderLemmas.{behind-precedes, is_at-Equal, is_equal, not_above-below, total}
use Rattle.oai_places.specs.Pages.{begins_at}
use Rattle.oai_places.specs.Places.{have_records, is_wanted}

-- ---- datestamps of items in order

-- nothing stands before no text
not_less : (text : List ℕ) → is_lt (slice_cmp nat_cmp text []) ≡ false
not_less [] = refl
not_less (b ∷ text) = refl

-- an item before the first key of a datestamp has an earlier one
earlier_cmp : (o p : Ordering) → is_lt p ≡ false → is_lt (ordering_then o p) ≡ true → o ≡ Less
earlier_cmp Less p h e = refl
earlier_cmp Equal p h e = absurd (both_ways (is_lt p) h e)
earlier_cmp Greater p h e = cc

int_before : (x y : ℤ) → int_cmp x y ≡ Less → int_le y x ≡ false
int_before x y e = let lt : x <ℤ y = int_ranked x y Less (sym e) in grind (arith, ints)

pub earlier : (lower : ℤ) (x : ItemState) → is_lt (place_cmp x lower []) ≡ true → int_le lower x.stamp ≡ false
earlier lower x h = int_before x.stamp lower (earlier_cmp (int_cmp x.stamp lower) (slice_cmp nat_cmp x.identifier []) (not_less x.identifier) h)

-- an item that does not stand before a key has no earlier datestamp
not_after : (o p : Ordering) → is_gt (ordering_then o p) ≡ true → (o ≡ Greater) ⊎ (o ≡ Equal)
not_after Less p h = cc
not_after Equal p h = inr refl
not_after Greater p h = inl refl

int_after : (x y : ℤ) → (int_cmp x y ≡ Greater) ⊎ (int_cmp x y ≡ Equal) → int_le y x ≡ true
int_after x y h = ⊎_elim (λ e. from_lt (int_ranked x y Greater (sym e))) (λ e. from_eq (int_ranked x y Equal (sym e))) h where
  from_lt : y <ℤ x → int_le y x ≡ true
  from_lt lt = grind (arith, ints)

  from_eq : x ≡ y → int_le y x ≡ true
  from_eq same = grind (arith, ints)

later_stamp : (stamp : ℤ) (identifier : List ℕ) (x : ItemState) → is_gt (place_cmp x stamp identifier) ≡ true → int_le stamp x.stamp ≡ true
later_stamp stamp identifier x h = int_after x.stamp stamp (not_after (int_cmp x.stamp stamp) (slice_cmp nat_cmp x.identifier identifier) h)

-- an item before a key has no later datestamp
not_before_cmp : (o p : Ordering) → is_lt (ordering_then o p) ≡ true → (o ≡ Less) ⊎ (o ≡ Equal)
not_before_cmp Less p h = inl refl
not_before_cmp Equal p h = inr refl
not_before_cmp Greater p h = cc

pub earlier_stamp : (stamp : ℤ) (identifier : List ℕ) (x : ItemState) → is_lt (place_cmp x stamp identifier) ≡ true → int_le x.stamp stamp ≡ true
earlier_stamp stamp identifier x h =
    ⊎_elim (λ e. from_lt x.stamp stamp (int_ranked x.stamp stamp Less (sym e))) (λ e. from_eq x.stamp stamp (int_ranked x.stamp stamp Equal (sym e)))
    (not_before_cmp (int_cmp x.stamp stamp) (slice_cmp nat_cmp x.identifier identifier) h) where
      from_lt : (a b : ℤ) → a <ℤ b → int_le a b ≡ true
      from_lt a b lt = grind (arith, ints)

      from_eq : (a b : ℤ) → a ≡ b → int_le a b ≡ true
      from_eq a b same = grind (arith, ints)

equal_first : (o p : Ordering) → ordering_then o p ≡ Equal → o ≡ Equal
equal_first Less p h = cc
equal_first Equal p h = refl
equal_first Greater p h = cc

-- items in order that begin at a key have no earlier datestamp
pub stamps_from : (stamp : ℤ) (identifier : List ℕ) (items : List ItemState) → are_in_order items ≡ true → begins_at stamp identifier items ≡ true → list_all (λ x. int_le stamp x.stamp) items ≡ true
stamps_from stamp identifier [] h begins = refl
stamps_from stamp identifier (y ∷ items) h begins =
    let place : ItemState = only_place stamp identifier in
    let here : place_cmp y stamp identifier ≡ Equal = is_equal (place_cmp y stamp identifier) (sym (is_at-Equal stamp identifier y) ∙ begins) in
    and_from (int_le stamp y.stamp) (list_all (λ x. int_le stamp x.stamp) items)
    (int_after y.stamp stamp (inr (equal_first (int_cmp y.stamp stamp) (slice_cmp nat_cmp y.identifier identifier) here)))
    (all-weaker (precedes y) (λ x. int_le stamp x.stamp)
    (λ x later. later_stamp stamp identifier x (behind-precedes x place ∙ ap is_lt (sym (total.congr y place x here)) ∙ later))
    items (and_parts (list_all (precedes y) items) (are_in_order items) h).0)

-- ---- what is not wanted

pub not_behind : (asked : Filter) (stamp : ℤ) (identifier : List ℕ) (x : ItemState) → is_lt (place_cmp x stamp identifier) ≡ true → is_wanted asked stamp identifier x ≡ false
not_behind asked stamp identifier x h = ap (λ b. b && passes asked x) (not_above-below stamp identifier x h)

parts_of : (asked : Filter) (stamp : ℤ) (identifier : List ℕ) (x : ItemState) → is_wanted asked stamp identifier x ≡ true → (int_le asked.lower x.stamp ≡ true) × (int_le x.stamp asked.upper ≡ true)
parts_of asked stamp identifier x h =
    let a = and_parts (is_gt (place_cmp x stamp identifier)) (passes asked x) h in
    let b = and_parts (has_record asked.prefix x.formats && int_le asked.lower x.stamp && int_le x.stamp asked.upper) (is_in_given asked.set x.sets) a.1 in
    let c = and_parts (has_record asked.prefix x.formats && int_le asked.lower x.stamp) (int_le x.stamp asked.upper) b.0 in
    ((and_parts (has_record asked.prefix x.formats) (int_le asked.lower x.stamp) c.0).1, c.1)

pub too_early : (asked : Filter) (stamp : ℤ) (identifier : List ℕ) (x : ItemState) → int_le asked.lower x.stamp ≡ false → is_wanted asked stamp identifier x ≡ false
too_early asked stamp identifier x h = false_from_ne_true (is_wanted asked stamp identifier x) (λ wanted. both_ways (int_le asked.lower x.stamp) h (parts_of asked stamp identifier x wanted).0)

pub too_late : (asked : Filter) (stamp : ℤ) (identifier : List ℕ) (x : ItemState) → int_le x.stamp asked.upper ≡ false → is_wanted asked stamp identifier x ≡ false
too_late asked stamp identifier x h = false_from_ne_true (is_wanted asked stamp identifier x) (λ wanted. both_ways (int_le x.stamp asked.upper) h (parts_of asked stamp identifier x wanted).1)

-- ---- what is wanted

-- a record of each of the prefixes is one of each among them
of_each : (f : List ℕ → Bool) (text : List ℕ) (texts : List (List ℕ)) → list_all f texts ≡ true → is_among texts text ≡ true → f text ≡ true
of_each f text [] h among = cc
of_each f text (other ∷ texts) h among =
    let parts = and_parts (f other) (list_all f texts) h in
    ⊎_elim
    (λ same. ap f ((bytes_eq-Decides text other).0 same) ∙ parts.0)
    (λ later. of_each f text texts parts.1 later)
    (or_cases (bytes_eq text other) (is_among texts text) among)

pub prefix_of_each : (prefix : List ℕ) (prefixes : List (List ℕ)) (items : List ItemState) → have_records prefixes items ≡ true → is_among prefixes prefix ≡ true
    → list_all (λ (item : ItemState). has_record prefix item.formats) items ≡ true
unfolding have_records
prefix_of_each prefix prefixes items h among =
    all-weaker (λ (item : ItemState). list_all (λ p. has_record p item.formats) prefixes) (λ item. has_record prefix item.formats)
    (λ item each. of_each (λ p. has_record p item.formats) prefix prefixes each among) items h

-- what passes in each part is wanted
and_all : (a b c d e : Bool) → a ≡ true → b ≡ true → c ≡ true → d ≡ true → (a && (((b && c) && d) && e)) ≡ e
and_all a b c d e ha hb hc hd = rw (ha, hb, hc, hd) refl

pub wanted_given : (asked : Filter) (stamp : ℤ) (identifier : List ℕ) (x : ItemState) → is_gt (place_cmp x stamp identifier) ≡ true → has_record asked.prefix x.formats ≡ true
    → int_le asked.lower x.stamp ≡ true → int_le x.stamp asked.upper ≡ true → is_wanted asked stamp identifier x ≡ is_in_given asked.set x.sets
wanted_given asked stamp identifier x behind has lower upper =
    and_all (is_gt (place_cmp x stamp identifier)) (has_record asked.prefix x.formats) (int_le asked.lower x.stamp) (int_le x.stamp asked.upper) (is_in_given asked.set x.sets) behind has lower upper

-- what is wanted is in the set, where one is given
pub given_from : (asked : Filter) (stamp : ℤ) (identifier : List ℕ) (x : ItemState) → is_wanted asked stamp identifier x ≡ true → is_in_given asked.set x.sets ≡ true
given_from asked stamp identifier x h = (and_parts _ (is_in_given asked.set x.sets) (and_parts (is_gt (place_cmp x stamp identifier)) (passes asked x) h).1).1
