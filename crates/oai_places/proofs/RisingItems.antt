-- Items that rise, and how they stand around a place among them.
use Rattle.std.proofs.Common.{◌≡◌, ◌∙◌, ◌+◌, ◌<◌, ℕ, ℤ, Bool, true, false, not, ◌==◌, List, [], ◌∷◌, ◌++◌, length, take, drop, get_or, refl, sym, ap, arith}
use Rattle.std.specs.List.{list_all}
use Rattle.std.specs.Ordering.{is_lt, is_gt, is_eq, ordering_index}
use Rattle.std.specs.declared.cmp.Ordering.{Ordering}
use Rattle.std.specs.declared.cmp.Ordering.TheVariants.{Less, Equal, Greater}
use Rattle.std.proofs.lemmas.Bool.{and_from, and_parts, false_from_ne_true, false≢true}
use Rattle.std.proofs.lemmas.List.{drop_more, take_all, take_more}
use Rattle.std.proofs.lemmas.List.Folds.{list_all-append, list_all_at}
use Rattle.oai_names.proofs.Lists.{all-weaker, cut}
use Rattle.oai_item.specs.Item.{ItemState}
use Rattle.oai_item.specs.Order.{are_in_order, item_cmp, place_cmp, precedes}
use Rattle.oai_item.proofs.Around.{in_order-append, in_order-join, only_place}
use Rattle.oai_item.proofs.OrderLemmas.{behind-precedes, is_at-Equal, is_less, precedes-trans, total}
use Rattle.oai_places.specs.Pages.{begins_at}

-- ---- each stands before the next

pub one_higher : (items : List ItemState) (at : ℕ) (d : ItemState) → at + 1 < length items → are_in_order (take (at + 1) items) ≡ true
    → precedes (get_or items at d) (get_or items (at + 1) d) ≡ true → are_in_order (take (at + 1 + 1) items) ≡ true
one_higher items at d within h up =
    let front : List ItemState = take at items in
    let last : ItemState = get_or items at d in
    let next : ItemState = get_or items (at + 1) d in
    let below : ItemState → Bool = λ item. list_all (precedes item) (next ∷ []) in
    let parts : take (at + 1) items ≡ front ++ last ∷ [] = take_more items at d (omega arith) in
    let ordered = in_order-append front (last ∷ []) (ap are_in_order (sym parts) ∙ h) in
    let ahead : list_all below front ≡ true =
    all-weaker (λ (item : ItemState). list_all (precedes item) (last ∷ [])) below
    (λ item g. and_from (precedes item next) true (precedes-trans item last next (and_parts (precedes item last) true g).0 up) refl)
    front ordered.2
    in
    let here : list_all below (last ∷ []) ≡ true = and_from (below last) true (and_from (precedes last next) true up refl) refl in
    let all : list_all below (front ++ last ∷ []) ≡ true = list_all-append below front (last ∷ []) ∙ and_from (list_all below front) (list_all below (last ∷ [])) ahead here in
    ap are_in_order (take_more items (at + 1) d within) ∙ in_order-join (take (at + 1) items) (next ∷ []) h refl (ap (list_all below) parts ∙ all)

in_order-next : (items : List ItemState) (at : ℕ) (d : ItemState) → at + 1 < length items → are_in_order items ≡ true → precedes (get_or items at d) (get_or items (at + 1) d) ≡ true
in_order-next items at d within h =
    let last : ItemState = get_or items at d in
    let next : ItemState = get_or items (at + 1) d in
    let rest : List ItemState = drop (at + 1 + 1) items in
    let split : items ≡ take at items ++ (last ∷ next ∷ rest) = cut items at d (omega arith) ∙ ap (λ ys. take at items ++ (last ∷ ys)) (drop_more items (at + 1) d within) in
    let behind = (in_order-append (take at items) (last ∷ next ∷ rest) (ap are_in_order (sym split) ∙ h)).1 in
    (and_parts (precedes last next) (list_all (precedes last) rest) (and_parts (list_all (precedes last) (next ∷ rest)) (are_in_order (next ∷ rest)) behind).0).0

pub not_higher : (items : List ItemState) (at : ℕ) (d : ItemState) → at + 1 < length items → precedes (get_or items at d) (get_or items (at + 1) d) ≡ false → are_in_order items ≡ false
not_higher items at d within falls = false_from_ne_true (are_in_order items) (λ h. false≢true (sym falls ∙ in_order-next items at d within h))

-- as `!=` tells it
test_of : (o : Ordering) (b : Bool) → not (ordering_index o == 0) ≡ b → is_lt o ≡ not b
test_of Less b h = ap not h
test_of Equal b h = ap not h
test_of Greater b h = ap not h

pub rises_from : (items : List ItemState) (before at : ℕ) (d : ItemState) (o : Ordering) → before + 1 ≡ at → at < length items → o ≡ item_cmp (get_or items before d) (get_or items at d)
    → not (ordering_index o == 0) ≡ false → are_in_order (take at items) ≡ true → are_in_order (take (at + 1) items) ≡ true
rises_from items before at d o e within is test h =
    let up : precedes (get_or items before d) (get_or items (before + 1) d) ≡ true =
    ap (λ n. precedes (get_or items before d) (get_or items n d)) e ∙ ap is_lt (sym is) ∙ test_of o false test
    in
    ap (λ n. are_in_order (take (n + 1) items)) (sym e) ∙ one_higher items before d (omega (arith, e, within)) (ap (λ n. are_in_order (take n items)) e ∙ h) up

pub falls_from : (items : List ItemState) (before at : ℕ) (d : ItemState) (o : Ordering) → before + 1 ≡ at → at < length items → o ≡ item_cmp (get_or items before d) (get_or items at d)
    → not (ordering_index o == 0) ≡ true → are_in_order items ≡ false
falls_from items before at d o e within is test =
    not_higher items before d (omega (arith, e, within)) (ap (λ n. precedes (get_or items before d) (get_or items n d)) e ∙ ap is_lt (sym is) ∙ test_of o true test)

pub one_rises : (items : List ItemState) → are_in_order (take 1 items) ≡ true
one_rises [] = refl
one_rises (item ∷ items) = refl

-- ---- those before an item that stands before a place, and those behind one that stands behind it

pub front_lower : (stamp : ℤ) (identifier : List ℕ) (items : List ItemState) (at : ℕ) (d : ItemState) → are_in_order items ≡ true → at < length items
    → place_cmp (get_or items at d) stamp identifier ≡ Less → list_all (λ item. is_lt (place_cmp item stamp identifier)) (take (at + 1) items) ≡ true
front_lower stamp identifier items at d h within here =
    let place : ItemState = only_place stamp identifier in
    let item : ItemState = get_or items at d in
    let below : ItemState → Bool = λ y. is_lt (place_cmp y stamp identifier) in
    let rest : List ItemState = drop (at + 1) items in
    let ordered = in_order-append (take at items) (item ∷ rest) (ap are_in_order (sym (cut items at d within)) ∙ h) in
    let ahead : list_all below (take at items) ≡ true =
    all-weaker (λ (y : ItemState). list_all (precedes y) (item ∷ rest)) below
    (λ y g. ap is_lt (total.trans y item place (is_less (item_cmp y item) (and_parts (precedes y item) (list_all (precedes y) rest) g).0) here))
    (take at items) ordered.2
    in
    ap (list_all below) (take_more items at d within) ∙ list_all-append below (take at items) (item ∷ [])
    ∙ and_from (list_all below (take at items)) (list_all below (item ∷ [])) ahead (and_from (below item) true (ap is_lt here) refl)

pub back_higher : (stamp : ℤ) (identifier : List ℕ) (items : List ItemState) (at : ℕ) (d : ItemState) → are_in_order items ≡ true → at < length items
    → place_cmp (get_or items at d) stamp identifier ≡ Greater → list_all (λ item. is_gt (place_cmp item stamp identifier)) (drop at items) ≡ true
back_higher stamp identifier items at d h within here =
    let place : ItemState = only_place stamp identifier in
    let item : ItemState = get_or items at d in
    let above : ItemState → Bool = λ y. is_gt (place_cmp y stamp identifier) in
    let rest : List ItemState = drop (at + 1) items in
    let ordered = in_order-append (take at items) (item ∷ rest) (ap are_in_order (sym (cut items at d within)) ∙ h) in
    let later = and_parts (list_all (precedes item) rest) (are_in_order rest) ordered.1 in
    let first : precedes place item ≡ true = sym (behind-precedes item place) ∙ ap is_gt here in
    let behind : list_all above rest ≡ true =
    all-weaker (precedes item) above (λ y g. behind-precedes y place ∙ precedes-trans place item y first g) rest later.0
    in
    ap (list_all above) (drop_more items at d within) ∙ and_from (above item) (list_all above rest) (ap is_gt here) behind

-- ---- the last item, and the first

same_test : (a b : Bool) → (a ≡ true → b ≡ true) → (a ≡ false → b ≡ false) → a ≡ b
same_test true b holds fails = sym (holds refl)
same_test false b holds fails = sym (fails refl)

-- all stand before a place where the last does
pub all_before : (stamp : ℤ) (identifier : List ℕ) (items : List ItemState) (at : ℕ) (d : ItemState) → are_in_order items ≡ true → at + 1 ≡ length items
    → is_lt (place_cmp (get_or items at d) stamp identifier) ≡ list_all (λ item. is_lt (place_cmp item stamp identifier)) items
all_before stamp identifier items at d h last =
    let below : ItemState → Bool = λ y. is_lt (place_cmp y stamp identifier) in
    same_test (below (get_or items at d)) (list_all below items)
    (λ lower. ap (list_all below) (sym (take_all (at + 1) items (omega (arith, last))))
    ∙ front_lower stamp identifier items at d h (omega (arith, last)) (is_less (place_cmp (get_or items at d) stamp identifier) lower))
    (λ not_lower. list_all_at below items at d (omega (arith, last)) not_lower)

-- the first has a place
pub first_at : (stamp : ℤ) (identifier : List ℕ) (items : List ItemState) (d : ItemState) → 0 < length items
    → is_eq (place_cmp (get_or items 0 d) stamp identifier) ≡ begins_at stamp identifier items
first_at stamp identifier [] d some = absurd (omega arith)
first_at stamp identifier (item ∷ items) d some = sym (is_at-Equal stamp identifier item)
