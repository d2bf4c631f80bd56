-- A selection is the one list in order that has the members that are asked for.
use Rattle.std.proofs.Common.{◌≡◌, ◌↔◌, inl, inr, ℕ, ℤ, ◌≤ℤ◌, Bool, true, ◌&&◌, List, [], ◌∷◌, Option, None, Some, IfSome, refl, sym, ◌∙◌, ap, arith}
use Rattle.std.specs.Prelude.{int_le}
use Rattle.std.specs.List.{Contains, list_all}
use Rattle.std.proofs.lemmas.Bool.{and_from, and_parts, both_ways}
use Rattle.std.proofs.lemmas.Int.{ints}
use Rattle.oai_item.specs.Item.{ItemState, has_record}
use Rattle.oai_item.specs.Membership.{is_in}
use Rattle.oai_item.specs.Order.{precedes, are_in_order}
use Rattle.oai_item.specs.Selection.{Filter, IsSelected, is_in_given, passes, selected}
use Rattle.oai_item.proofs.Members.{Member, Member-filter, contains_from, member_from}
use Rattle.oai_item.proofs.OrderLemmas.{in_order-filter, precedes-itself, precedes-trans}

pub in_order-selected : (asked : Filter) (items : List ItemState) → are_in_order items ≡ true → are_in_order (selected asked items) ≡ true
unfolding selected
in_order-selected asked items h = in_order-filter (passes asked) items h

pub le_from : (a b : ℤ) → int_le a b ≡ true → a ≤ℤ b
le_from a b h = grind (arith, ints)

pub le_test : (a b : ℤ) → a ≤ℤ b → int_le a b ≡ true
le_test a b h = grind (arith, ints)

given_from : (set : Option (List ℕ)) (sets : List (List ℕ)) → is_in_given set sets ≡ true → IfSome set (λ s. is_in s sets ≡ true)
given_from None sets h = tt
given_from (Some s) sets h = h

given_test : (set : Option (List ℕ)) (sets : List (List ℕ)) → IfSome set (λ s. is_in s sets ≡ true) → is_in_given set sets ≡ true
given_test None sets h = refl
given_test (Some s) sets h = h

pub selected_member : (asked : Filter) (items : List ItemState) (item : ItemState) → Member item (selected asked items) ↔ (Member item items × (passes asked item ≡ true))
unfolding selected
selected_member asked items item = Member-filter (passes asked) items item

-- a member of the selection is one of the items that is asked for
pub contains_selected : (asked : Filter) (items : List ItemState) (item : ItemState) → Contains (selected asked items) item ↔ IsSelected asked items item
contains_selected asked items item = (
  (λ h.
      let found = (selected_member asked items item).0 (member_from (selected asked items) item h) in
      let in_set = and_parts (has_record asked.prefix item.formats && int_le asked.lower item.stamp && int_le item.stamp asked.upper) (is_in_given asked.set item.sets) found.1 in
      let until = and_parts (has_record asked.prefix item.formats && int_le asked.lower item.stamp) (int_le item.stamp asked.upper) in_set.0 in
      let from = and_parts (has_record asked.prefix item.formats) (int_le asked.lower item.stamp) until.0 in
      record {
        stands = contains_from items item found.0;
        has_prefix = from.0;
        from = le_from asked.lower item.stamp from.1;
        until = le_from item.stamp asked.upper until.1;
        in_set = given_from asked.set item.sets in_set.1;
      }),
  (λ h.
      contains_from (selected asked items) item ((selected_member asked items item).1 (
        member_from items item h.stands,
        and_from _ _ (and_from _ _ (and_from _ _ h.has_prefix (le_test asked.lower item.stamp h.from)) (le_test item.stamp asked.upper h.until)) (given_test asked.set item.sets h.in_set),
      ))),
)

-- ---- one list

all_at : (p : ItemState → Bool) (items : List ItemState) (item : ItemState) → list_all p items ≡ true → Member item items → p item ≡ true
all_at p [] item h member = absurd member
all_at p (x ∷ items) item h member =
    let parts = and_parts (p x) (list_all p items) h in
    elim member [ inl here ↦ ap p here ∙ parts.0 | inr later ↦ all_at p items item parts.1 later ]

-- the first items of two lists in order that have the same members
same_first : (x y : ItemState) (xs ys : List ItemState) → list_all (precedes x) xs ≡ true → list_all (precedes y) ys ≡ true → Member x (y ∷ ys) → Member y (x ∷ xs) → x ≡ y
same_first x y xs ys before_x before_y h g =
    elim h [
      | inl same ↦ same
      | inr behind ↦ elim g [
        | inl same ↦ sym same
        | inr later ↦ absurd (both_ways (precedes x x) (precedes-itself x) (precedes-trans x y x (all_at (precedes x) xs y before_x later) (all_at (precedes y) ys x before_y behind)))
      ]
    ]

-- a member behind the first is one behind the first of the other list
behind_first : (x y : ItemState) (xs ys : List ItemState) → x ≡ y → list_all (precedes x) xs ≡ true → ((item : ItemState) → Member item (x ∷ xs) → Member item (y ∷ ys)) → (item : ItemState) → Member item xs → Member item ys
behind_first x y xs ys same before h item member =
    elim (h item (inr member)) [
      | inl here ↦ absurd (both_ways (precedes x item) (ap (precedes x) (here ∙ sym same) ∙ precedes-itself x) (all_at (precedes x) xs item before member))
      | inr later ↦ later
    ]

-- two lists in order that have the same members are one
pub same_from_members : (xs ys : List ItemState) → are_in_order xs ≡ true → are_in_order ys ≡ true
    → ((item : ItemState) → Member item xs → Member item ys) → ((item : ItemState) → Member item ys → Member item xs) → xs ≡ ys
same_from_members [] [] h g to from = refl
same_from_members [] (y ∷ ys) h g to from = absurd (from y (inl refl))
same_from_members (x ∷ xs) [] h g to from = absurd (to x (inl refl))
same_from_members (x ∷ xs) (y ∷ ys) h g to from =
    let at_x = and_parts (list_all (precedes x) xs) (are_in_order xs) h in
    let at_y = and_parts (list_all (precedes y) ys) (are_in_order ys) g in
    let same : x ≡ y = same_first x y xs ys at_x.0 at_y.0 (to x (inl refl)) (from y (inl refl)) in
    let rest : xs ≡ ys = same_from_members xs ys at_x.1 at_y.1 (behind_first x y xs ys same at_x.0 to) (behind_first y x ys xs (sym same) at_y.0 from) in
    cc

-- the selection is the only one
pub only_selected : (asked : Filter) (items others : List ItemState) → are_in_order items ≡ true → are_in_order others ≡ true
    → ((item : ItemState) → Contains others item ↔ IsSelected asked items item) → others ≡ selected asked items
only_selected asked items others h g same =
    same_from_members others (selected asked items) g (in_order-selected asked items h)
    (λ item member. member_from (selected asked items) item ((contains_selected asked items item).1 ((same item).0 (contains_from others item member))))
    (λ item member. member_from others item ((same item).1 ((contains_selected asked items item).0 (contains_from (selected asked items) item member))))
