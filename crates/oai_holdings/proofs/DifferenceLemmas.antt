-- Items with differences: what has an identifier then, and that lists in order that have the same under each identifier are one.
use Rattle.std.proofs.Common.{◌≡◌, ◌∙◌, ℕ, Bool, true, not, inl, inr, List, [], ◌∷◌, ◌++◌, map, Option, None, Some, refl, sym, ap, subst}
use Rattle.std.specs.Prelude.{find}
use Rattle.std.specs.List.{list_all}
use Rattle.std.specs.Ordering.{int_eq}
use Rattle.std.specs.Str.{bytes_eq}
use Rattle.std.proofs.lemmas.Bool.{and_from, and_parts, and_right, cases_Bool, cond_both, cond-true, cond-false, false≢true, not-true}
use Rattle.std.proofs.lemmas.Slice.Eq.{bytes_eq-Decides}
use Rattle.oai_item.specs.Item.{ItemState}
use Rattle.oai_item.specs.Items.{are_apart, is_apart, is_named, item_named, without}
use Rattle.oai_item.specs.Order.{are_in_order, precedes}
use Rattle.oai_item.proofs.Named.{item_named-new, item_named-without, of_found}
use Rattle.oai_item.proofs.OrderLemmas.{apart-changed, apart-filter, in_order-changed, in_order-filter, precedes-itself, precedes-trans, precedes-turned}
use Rattle.oai_names.proofs.Lists.{all-weaker, find_none}
use Rattle.oai_holdings.specs.Changes.{with_new}
use Rattle.oai_holdings.specs.Differences.{AreDifferences, AreInOrderAndApart, ItemDifference, comes, goes, named_after, with_difference, with_differences}

-- ---- what has an identifier after differences

pub named_differences : (q : List ℕ) (items : List ItemState) (differences : List ItemDifference)
    → item_named q (with_differences items differences) ≡ named_after q differences (item_named q items)
named_differences q items [] = refl
named_differences q items (comes item ∷ differences) =
    named_differences q (with_new item items) differences ∙ ap (named_after q differences) (item_named-new item q items)
named_differences q items (goes gone ∷ differences) =
    named_differences q (without gone items) differences ∙ ap (named_after q differences) (item_named-without gone q items)

-- ---- items stay in order, and apart

held_difference : (items : List ItemState) (difference : ItemDifference) → AreInOrderAndApart items → AreInOrderAndApart (with_difference items difference)
unfolding without
held_difference items (comes item) held = record { ordered = in_order-changed item items held.ordered; apart = apart-changed item items held.apart }
held_difference items (goes gone) held =
    let stays : ItemState → Bool = λ item. not (is_named gone item) in
    record { ordered = in_order-filter stays items held.ordered; apart = apart-filter stays items held.apart }

pub held_differences : (items : List ItemState) (differences : List ItemDifference) → AreInOrderAndApart items → AreInOrderAndApart (with_differences items differences)
held_differences items [] held = held
held_differences items (difference ∷ differences) held = held_differences (with_difference items difference) differences (held_difference items difference held)

-- ---- lists in order that have the same under each identifier

none-some : (x : ItemState) → None ≡ Some x → ⊥
none-some x h = cc

some_same : (x y : ItemState) → Some x ≡ Some y → x ≡ y
some_same x y h = cc

found_first : (x : ItemState) (xs : List ItemState) → item_named x.identifier (x ∷ xs) ≡ Some x
unfolding item_named
found_first x xs = cond-true (is_named x.identifier x) (Some x) (find (is_named x.identifier) xs) ((bytes_eq-Decides x.identifier x.identifier).1 refl)

-- an item that precedes all others is none of them
not_before : (x y : ItemState) (xs ys : List ItemState) → are_in_order (y ∷ ys) ≡ true → precedes x y ≡ true → item_named x.identifier (x ∷ xs) ≡ item_named x.identifier (y ∷ ys) → ⊥
not_before x y xs ys ordered before same =
    let parts = and_parts (list_all (precedes y) ys) (are_in_order ys) ordered in
    let all : list_all (precedes x) (y ∷ ys) ≡ true =
    and_from (precedes x y) (list_all (precedes x) ys) before (all-weaker (precedes y) (precedes x) (λ z later. precedes-trans x y z before later) ys parts.0) in
    false≢true (sym (precedes-itself x) ∙ of_found (precedes x) x.identifier (y ∷ ys) x (sym same ∙ found_first x xs) all)

first_same : (x y : ItemState) (xs ys : List ItemState) → are_in_order (x ∷ xs) ≡ true → are_in_order (y ∷ ys) ≡ true
    → ((q : List ℕ) → item_named q (x ∷ xs) ≡ item_named q (y ∷ ys)) → x ≡ y
unfolding item_named
first_same x y xs ys a b same =
    elim (cases_Bool (is_named x.identifier y)) [
      | inl named ↦
          some_same x y (sym (found_first x xs) ∙ same x.identifier ∙ cond-true (is_named x.identifier y) (Some y) (find (is_named x.identifier) ys) named)
      | inr other ↦
          elim (cases_Bool (precedes x y)) [
            | inl before ↦ absurd (not_before x y xs ys b before (same x.identifier))
            | inr behind ↦
                absurd (not_before y x ys xs a (precedes-turned x y behind (and_right (int_eq y.stamp x.stamp) (is_named x.identifier y) other)) (sym (same y.identifier)))
          ]
    ]

-- none of the items behind one has its identifier
pub none_behind : (q : List ℕ) (x : ItemState) (xs : List ItemState) → list_all (is_apart x) xs ≡ true → is_named q x ≡ true → item_named q xs ≡ None
unfolding item_named
none_behind q x xs apart named =
    find_none (is_named q) xs (subst (λ (t : List ℕ). list_all (λ (y : ItemState). not (is_named t y)) xs ≡ true) ((bytes_eq-Decides x.identifier q).0 named) apart)

rest_same : (q : List ℕ) (x : ItemState) (xs ys : List ItemState) → are_apart (x ∷ xs) ≡ true → are_apart (x ∷ ys) ≡ true
    → item_named q (x ∷ xs) ≡ item_named q (x ∷ ys) → item_named q xs ≡ item_named q ys
unfolding item_named
rest_same q x xs ys a b same =
    elim (cases_Bool (is_named q x)) [
      | inl named ↦
          none_behind q x xs (and_parts (list_all (is_apart x) xs) (are_apart xs) a).0 named
          ∙ sym (none_behind q x ys (and_parts (list_all (is_apart x) ys) (are_apart ys) b).0 named)
      | inr other ↦
          sym (cond-false (is_named q x) (Some x) (find (is_named q) xs) other) ∙ same ∙ cond-false (is_named q x) (Some x) (find (is_named q) ys) other
    ]

pub same_held : (xs ys : List ItemState) → AreInOrderAndApart xs → AreInOrderAndApart ys → ((q : List ℕ) → item_named q xs ≡ item_named q ys) → xs ≡ ys
unfolding item_named
same_held [] [] a b same = refl
same_held [] (y ∷ ys) a b same = absurd (none-some y (same y.identifier ∙ found_first y ys))
same_held (x ∷ xs) [] a b same = absurd (none-some x (sym (same x.identifier) ∙ found_first x xs))
same_held (x ∷ xs) (y ∷ ys) a b same =
    let e : x ≡ y = first_same x y xs ys a.ordered b.ordered same in
    let a_apart : are_apart (y ∷ xs) ≡ true = subst (λ (z : ItemState). are_apart (z ∷ xs) ≡ true) e a.apart in
    let same_too : (q : List ℕ) → item_named q (y ∷ xs) ≡ item_named q (y ∷ ys) = λ q. subst (λ (z : ItemState). item_named q (z ∷ xs) ≡ item_named q (y ∷ ys)) e (same q) in
    let a_rest : AreInOrderAndApart xs = record {
      ordered = (and_parts (list_all (precedes x) xs) (are_in_order xs) a.ordered).1;
      apart = (and_parts (list_all (is_apart x) xs) (are_apart xs) a.apart).1;
    } in
    let b_rest : AreInOrderAndApart ys = record {
      ordered = (and_parts (list_all (precedes y) ys) (are_in_order ys) b.ordered).1;
      apart = (and_parts (list_all (is_apart y) ys) (are_apart ys) b.apart).1;
    } in
    ap (λ (z : ItemState). z ∷ xs) e ∙ ap (λ (zs : List ItemState). y ∷ zs) (same_held xs ys a_rest b_rest (λ q. rest_same q y xs ys a_apart b.apart (same_too q)))

-- ---- differences lead to the others

pub differences_lead : (items others : List ItemState) (differences : List ItemDifference) → AreInOrderAndApart items → AreInOrderAndApart others → AreDifferences items differences others
    → with_differences items differences ≡ others
differences_lead items others differences held are same =
    same_held (with_differences items differences) others (held_differences items differences held) are
    (λ identifier. named_differences identifier items differences ∙ same identifier)

-- ---- there are differences from any items to any others: all go, and the others come

abbrev all_change : List ItemState → List ItemState → List ItemDifference
all_change items others = map (λ (item : ItemState). goes item.identifier) items ++ map comes others

pub after_append : (q : List ℕ) (differences others : List ItemDifference) (found : Option ItemState)
    → named_after q (differences ++ others) found ≡ named_after q others (named_after q differences found)
after_append q [] others found = refl
after_append q (comes item ∷ differences) others found = after_append q differences others _
after_append q (goes gone ∷ differences) others found = after_append q differences others _

pub none_stays : (q : List ℕ) (items : List ItemState) → named_after q (map (λ (item : ItemState). goes item.identifier) items) None ≡ None
none_stays q [] = refl
none_stays q (x ∷ items) =
    cond_both (bytes_eq x.identifier q) None None (λ (found : Option ItemState). named_after q (map (λ (item : ItemState). goes item.identifier) items) found ≡ None)
    (λ _. none_stays q items) (λ _. none_stays q items)

-- none is left once all went
all_gone : (q : List ℕ) (items : List ItemState) → named_after q (map (λ (item : ItemState). goes item.identifier) items) (item_named q items) ≡ None
unfolding item_named
all_gone q [] = refl
all_gone q (x ∷ items) =
    elim (cases_Bool (bytes_eq x.identifier q)) [
      | inl named ↦ ap rest (cond-true (bytes_eq x.identifier q) None (find (is_named q) (x ∷ items)) named) ∙ none_stays q items
      | inr other ↦
          ap rest (cond-false (bytes_eq x.identifier q) None (find (is_named q) (x ∷ items)) other ∙ cond-false (is_named q x) (Some x) (find (is_named q) items) other)
          ∙ all_gone q items
    ]
  where
    rest : Option ItemState → Option ItemState
    rest found = named_after q (map (λ (item : ItemState). goes item.identifier) items) found

-- items of other identifiers come
pub others_come : (q : List ℕ) (items : List ItemState) (found : Option ItemState) → list_all (λ (item : ItemState). not (is_named q item)) items ≡ true
    → named_after q (map comes items) found ≡ found
others_come q [] found none = refl
others_come q (x ∷ items) found none =
    let parts = and_parts (not (is_named q x)) (list_all (λ (item : ItemState). not (is_named q item)) items) none in
    ap (named_after q (map comes items)) (cond-false (is_named q x) (Some x) found (not-true (is_named q x) parts.0)) ∙ others_come q items found parts.1

-- all come, and the one of the identifier is found
pub all_come : (q : List ℕ) (items : List ItemState) → are_apart items ≡ true → named_after q (map comes items) None ≡ item_named q items
unfolding item_named
all_come q [] apart = refl
all_come q (x ∷ items) apart =
    let parts = and_parts (list_all (is_apart x) items) (are_apart items) apart in
    elim (cases_Bool (is_named q x)) [
      | inl named ↦
          ap (named_after q (map comes items)) (cond-true (is_named q x) (Some x) None named)
          ∙ others_come q items (Some x) (subst (λ (t : List ℕ). list_all (λ (y : ItemState). not (is_named t y)) items ≡ true) ((bytes_eq-Decides x.identifier q).0 named) parts.0)
          ∙ sym (cond-true (is_named q x) (Some x) (find (is_named q) items) named)
      | inr other ↦
          ap (named_after q (map comes items)) (cond-false (is_named q x) (Some x) None other) ∙ all_come q items parts.1
          ∙ sym (cond-false (is_named q x) (Some x) (find (is_named q) items) other)
    ]

pub differences_are : (items others : List ItemState) → AreInOrderAndApart others → (differences : List ItemDifference) × AreDifferences items differences others
differences_are items others are = (
  all_change items others,
  (λ q.
      after_append q (map (λ (item : ItemState). goes item.identifier) items) (map comes others) (item_named q items)
      ∙ ap (named_after q (map comes others)) (all_gone q items) ∙ all_come q others are.apart),
)
