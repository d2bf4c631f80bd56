-- What stands under an identifier in a list of items, and that two lists in the order of identifiers are one where this is the same.
use Rattle.std.proofs.Common.{◌≡◌, ◌∙◌, inl, inr, ℕ, Bool, true, false, not, cond, List, [], ◌∷◌, ◌++◌, Option, None, Some, refl, sym, ap, subst}
use Rattle.std.specs.Prelude.{filter, find, reverse}
use Rattle.std.specs.List.{flat_map, list_all}
use Rattle.std.specs.Option.{option_or}
use Rattle.std.proofs.lemmas.Bool.{and_from, and_parts, cond-true, cond-false, cond_both, cases_Bool, not_from_false}
use Rattle.std.proofs.lemmas.List.{reverse-append}
use Rattle.std.proofs.lemmas.List.Folds.{find-append}
use Rattle.std.proofs.lemmas.Option.{none-some}
use Rattle.oai_names.proofs.Lists.{all-weaker, find_none}
use Rattle.oai_item.specs.Item.{ItemState, is_before}
use Rattle.oai_item.specs.Items.{is_named, item_named}
use Rattle.oai_copy.specs.Copies.{are_listed, caught_up, caught_up_with, is_listed_before, last_named, with_state}
use Rattle.oai_copy.proofs.OrderLemmas.{before-apart, before-other, eq_is, eq_itself, listed-trans}

-- ---- options

or_none : (o : Option ItemState) → option_or o None ≡ o
or_none None = refl
or_none (Some x) = refl

or_assoc : (o p q : Option ItemState) → option_or (option_or o p) q ≡ option_or o (option_or p q)
or_assoc None p q = refl
or_assoc (Some x) p q = refl

or_first : (b : Bool) (x : ItemState) (r : Option ItemState) → option_or (cond b (Some x) None) r ≡ cond b (Some x) r
or_first true x r = refl
or_first false x r = refl

-- where nothing else passes the test, it is the same to be the first and to be the last that passes
pub pushed : (b : Bool) (x : ItemState) (r s : Option ItemState) → (b ≡ true → r ≡ None) → option_or (cond b (Some x) r) s ≡ option_or r (cond b (Some x) s)
pushed true x r s none = rw (none refl) refl
pushed false x r s none = refl

-- ---- the last that passes

pub find_last : (p : ItemState → Bool) (xs : List ItemState) (x : ItemState) → find p (reverse (xs ++ x ∷ [])) ≡ cond (p x) (Some x) (find p (reverse xs))
find_last p xs x = ap (find p) (reverse-append xs (x ∷ []))

pub find_front : (p : ItemState → Bool) (x : ItemState) (xs : List ItemState) → find p (reverse (x ∷ xs)) ≡ option_or (find p (reverse xs)) (cond (p x) (Some x) None)
find_front p x xs = ap (find p) (reverse-append (x ∷ []) xs) ∙ find-append p (reverse xs) (x ∷ [])

pub find_joined : (p : ItemState → Bool) (xs ys : List ItemState) → find p (reverse (xs ++ ys)) ≡ option_or (find p (reverse ys)) (find p (reverse xs))
find_joined p xs ys = ap (find p) (reverse-append xs ys) ∙ find-append p (reverse ys) (reverse xs)

find_filtered : (p : ItemState → Bool) (xs : List ItemState) → find p (reverse (filter p xs)) ≡ find p (reverse xs)
find_filtered p [] = refl
find_filtered p (x ∷ xs) =
    let rest = find_filtered p xs in
    cond_both (p x) (x ∷ filter p xs) (filter p xs) (λ ys. find p (reverse ys) ≡ find p (reverse (x ∷ xs)))
    (λ passes. find_front p x (filter p xs) ∙ ap (λ o. option_or o (cond (p x) (Some x) None)) rest ∙ sym (find_front p x xs))
    (λ fails. rest ∙ sym (or_none (find p (reverse xs))) ∙ ap (option_or (find p (reverse xs))) (sym (cond-false (p x) (Some x) None fails)) ∙ sym (find_front p x xs))

-- it is the same where a filter by the test gives the same
pub find_same : (p : ItemState → Bool) (xs ys : List ItemState) → filter p ys ≡ filter p xs → find p (reverse ys) ≡ find p (reverse xs)
find_same p xs ys h = sym (find_filtered p ys) ∙ ap (λ zs. find p (reverse zs)) h ∙ find_filtered p xs

-- ---- what a copy holds that has caught up

twice : (b : Bool) (x y : ItemState) (r : Option ItemState) → cond b (Some x) r ≡ cond b (Some x) (cond b (Some y) r)
twice true x y r = refl
twice false x y r = refl

exchanged : (b c : Bool) (x y : ItemState) (r : Option ItemState) → (b ≡ true → c ≡ false) → cond c (Some y) (cond b (Some x) r) ≡ cond b (Some x) (cond c (Some y) r)
exchanged true c x y r apart = rw (apart refl) refl
exchanged false c x y r apart = refl

-- under an identifier that the one item has, stands the other just where it has that of the one
named_alike : (q : List ℕ) (x y : ItemState) → is_named x.identifier y ≡ true → is_named q y ≡ is_named q x
named_alike q x y same = ap (λ (t : List ℕ). is_named q (record y { identifier = t })) (eq_is y.identifier x.identifier same)

named_apart : (q : List ℕ) (x y : ItemState) → is_named x.identifier y ≡ false → is_named q x ≡ true → is_named q y ≡ false
named_apart q x y other named = ap (λ (t : List ℕ). is_named t y) (sym (eq_is x.identifier q named)) ∙ other

pub find_with : (q : List ℕ) (x : ItemState) (items : List ItemState) → find (is_named q) (with_state x items) ≡ cond (is_named q x) (Some x) (find (is_named q) items)
find_with q x [] = refl
find_with q x (y ∷ ys) =
    let p : ItemState → Bool = is_named q in
    let wanted : Option ItemState = cond (p x) (Some x) (find p (y ∷ ys)) in
    cond_both (is_named x.identifier y) (x ∷ ys) (cond (is_listed_before x y) (x ∷ y ∷ ys) (y ∷ with_state x ys)) (λ zs. find p zs ≡ wanted)
    (λ same. twice (p x) x y (find p ys) ∙ ap (λ b. cond (p x) (Some x) (cond b (Some y) (find p ys))) (sym (named_alike q x y same)))
    (λ other. cond_both (is_listed_before x y) (x ∷ y ∷ ys) (y ∷ with_state x ys) (λ zs. find p zs ≡ wanted)
    (λ _. refl)
    (λ _. ap (cond (p y) (Some y)) (find_with q x ys) ∙ exchanged (p x) (p y) x y (find p ys) (named_apart q x y other)))

pub find_caught : (q : List ℕ) (copy items : List ItemState) → find (is_named q) (caught_up copy items) ≡ option_or (find (is_named q) (reverse items)) (find (is_named q) copy)
find_caught q copy [] = refl
find_caught q copy (x ∷ items) =
    let p : ItemState → Bool = is_named q in
    let later : Option ItemState = find p (reverse items) in
    find_caught q (with_state x copy) items
    ∙ ap (option_or later) (find_with q x copy ∙ sym (or_first (p x) x (find p copy)))
    ∙ sym (or_assoc later (cond (p x) (Some x) None) (find p copy))
    ∙ ap (λ o. option_or o (find p copy)) (sym (find_front p x items))

find_harvests : (q : List ℕ) (copy : List ItemState) (harvests : List (List ItemState))
    → find (is_named q) (caught_up_with copy harvests) ≡ option_or (find (is_named q) (reverse (flat_map (λ items. items) harvests))) (find (is_named q) copy)
find_harvests q copy [] = refl
find_harvests q copy (items ∷ harvests) =
    let p : ItemState → Bool = is_named q in
    let all : List ItemState = flat_map (λ items. items) harvests in
    find_harvests q (caught_up copy items) harvests
    ∙ ap (option_or (find p (reverse all))) (find_caught q copy items)
    ∙ sym (or_assoc (find p (reverse all)) (find p (reverse items)) (find p copy))
    ∙ ap (λ o. option_or o (find p copy)) (sym (find_joined p items all))

-- under each identifier the last item that came
pub last_stays : (harvests : List (List ItemState)) (identifier : List ℕ) → item_named identifier (caught_up_with [] harvests) ≡ last_named identifier (flat_map (λ items. items) harvests)
unfolding item_named
last_stays harvests identifier = find_harvests identifier [] harvests ∙ or_none (find (is_named identifier) (reverse (flat_map (λ items. items) harvests)))

-- ---- it stays in order

pub all_with : (p : ItemState → Bool) (x : ItemState) (items : List ItemState) → p x ≡ true → list_all p items ≡ true → list_all p (with_state x items) ≡ true
all_with p x [] h g = and_from (p x) true h refl
all_with p x (y ∷ ys) h g =
    let parts = and_parts (p y) (list_all p ys) g in
    cond_both (is_named x.identifier y) (x ∷ ys) (cond (is_listed_before x y) (x ∷ y ∷ ys) (y ∷ with_state x ys)) (λ zs. list_all p zs ≡ true)
    (λ _. and_from (p x) (list_all p ys) h parts.1)
    (λ _. cond_both (is_listed_before x y) (x ∷ y ∷ ys) (y ∷ with_state x ys) (λ zs. list_all p zs ≡ true)
    (λ _. and_from (p x) (list_all p (y ∷ ys)) h g)
    (λ _. and_from (p y) (list_all p (with_state x ys)) parts.0 (all_with p x ys h parts.1)))

pub listed_with : (x : ItemState) (items : List ItemState) → are_listed items ≡ true → are_listed (with_state x items) ≡ true
listed_with x [] h = refl
listed_with x (y ∷ ys) h =
    let parts = and_parts (list_all (is_listed_before y) ys) (are_listed ys) h in
    cond_both (is_named x.identifier y) (x ∷ ys) (cond (is_listed_before x y) (x ∷ y ∷ ys) (y ∷ with_state x ys)) (λ zs. are_listed zs ≡ true)
    (λ same. and_from (list_all (is_listed_before x) ys) (are_listed ys)
    (all-weaker (is_listed_before y) (is_listed_before x) (λ z before. subst (λ (t : List ℕ). is_before t z.identifier ≡ true) (eq_is y.identifier x.identifier same) before) ys parts.0) parts.1)
    (λ other. cond_both (is_listed_before x y) (x ∷ y ∷ ys) (y ∷ with_state x ys) (λ zs. are_listed zs ≡ true)
    (λ before. and_from (list_all (is_listed_before x) (y ∷ ys)) (are_listed (y ∷ ys))
    (and_from (is_listed_before x y) (list_all (is_listed_before x) ys) before (all-weaker (is_listed_before y) (is_listed_before x) (λ z later. listed-trans x y z before later) ys parts.0))
    h)
    (λ behind. and_from (list_all (is_listed_before y) (with_state x ys)) (are_listed (with_state x ys))
    (all_with (is_listed_before y) x ys (before-other y.identifier x.identifier other behind) parts.0)
    (listed_with x ys parts.1)))

pub listed_caught : (copy items : List ItemState) → are_listed copy ≡ true → are_listed (caught_up copy items) ≡ true
listed_caught copy [] h = h
listed_caught copy (x ∷ items) h = listed_caught (with_state x copy) items (listed_with x copy h)

pub listed_harvests : (copy : List ItemState) (harvests : List (List ItemState)) → are_listed copy ≡ true → are_listed (caught_up_with copy harvests) ≡ true
listed_harvests copy [] h = h
listed_harvests copy (items ∷ harvests) h = listed_harvests (caught_up copy items) harvests (listed_caught copy items h)

-- ---- lists in order that have the same under each identifier

-- what stands before all items has an identifier that none of them has
pub none_named : (x : ItemState) (xs : List ItemState) → list_all (is_listed_before x) xs ≡ true → find (is_named x.identifier) xs ≡ None
none_named x xs h =
    find_none (is_named x.identifier) xs (all-weaker (is_listed_before x) (λ y. not (is_named x.identifier y)) (λ y before. not_from_false (is_named x.identifier y) (before-apart x y before)) xs h)

-- so it is under an identifier that this one has
pub none_under : (q : List ℕ) (x : ItemState) (xs : List ItemState) → list_all (is_listed_before x) xs ≡ true → is_named q x ≡ true → find (is_named q) xs ≡ None
none_under q x xs h named = ap (λ (t : List ℕ). find (is_named t) xs) (sym (eq_is x.identifier q named)) ∙ none_named x xs h

found_first : (x : ItemState) (xs : List ItemState) → find (is_named x.identifier) (x ∷ xs) ≡ Some x
found_first x xs = cond-true (is_named x.identifier x) (Some x) (find (is_named x.identifier) xs) (eq_itself x.identifier)

-- an item that stands before all others is not found among them
not_before : (x y : ItemState) (xs ys : List ItemState) → are_listed (y ∷ ys) ≡ true → is_listed_before x y ≡ true → find (is_named x.identifier) (x ∷ xs) ≡ find (is_named x.identifier) (y ∷ ys) → ⊥
not_before x y xs ys h before same =
    let parts = and_parts (list_all (is_listed_before y) ys) (are_listed ys) h in
    let behind : list_all (is_listed_before x) (y ∷ ys) ≡ true =
    and_from (is_listed_before x y) (list_all (is_listed_before x) ys) before (all-weaker (is_listed_before y) (is_listed_before x) (λ z later. listed-trans x y z before later) ys parts.0) in
    none-some x (sym (none_named x (y ∷ ys) behind) ∙ sym same ∙ found_first x xs)

item_or : ItemState → Option ItemState → ItemState
item_or other None = other
item_or other (Some x) = x

one_item : (x y : ItemState) → Some x ≡ Some y → x ≡ y
unfolding item_or
one_item x y h = ap (item_or x) h

first_same : (x y : ItemState) (xs ys : List ItemState) → are_listed (x ∷ xs) ≡ true → are_listed (y ∷ ys) ≡ true
    → ((q : List ℕ) → find (is_named q) (x ∷ xs) ≡ find (is_named q) (y ∷ ys)) → x ≡ y
first_same x y xs ys a b same =
    elim (cases_Bool (is_named x.identifier y)) [
      | inl named ↦ one_item x y (sym (found_first x xs) ∙ same x.identifier ∙ cond-true (is_named x.identifier y) (Some y) (find (is_named x.identifier) ys) named)
      | inr other ↦
          elim (cases_Bool (is_listed_before x y)) [
            | inl before ↦ absurd (not_before x y xs ys b before (same x.identifier))
            | inr behind ↦ absurd (not_before y x ys xs a (before-other y.identifier x.identifier other behind) (sym (same y.identifier)))
          ]
    ]

rest_same : (x : ItemState) (xs ys : List ItemState) → are_listed (x ∷ xs) ≡ true → are_listed (x ∷ ys) ≡ true
    → (q : List ℕ) → find (is_named q) (x ∷ xs) ≡ find (is_named q) (x ∷ ys) → find (is_named q) xs ≡ find (is_named q) ys
rest_same x xs ys a b q same =
    elim (cases_Bool (is_named q x)) [
      | inl named ↦
          none_under q x xs (and_parts (list_all (is_listed_before x) xs) (are_listed xs) a).0 named
          ∙ sym (none_under q x ys (and_parts (list_all (is_listed_before x) ys) (are_listed ys) b).0 named)
      | inr other ↦ sym (cond-false (is_named q x) (Some x) (find (is_named q) xs) other) ∙ same ∙ cond-false (is_named q x) (Some x) (find (is_named q) ys) other
    ]

pub same_listed : (xs ys : List ItemState) → are_listed xs ≡ true → are_listed ys ≡ true → ((q : List ℕ) → find (is_named q) xs ≡ find (is_named q) ys) → xs ≡ ys
same_listed [] [] a b same = refl
same_listed [] (y ∷ ys) a b same = absurd (none-some y (same y.identifier ∙ found_first y ys))
same_listed (x ∷ xs) [] a b same = absurd (none-some x (sym (same x.identifier) ∙ found_first x xs))
same_listed (x ∷ xs) (y ∷ ys) a b same =
    let e : x ≡ y = first_same x y xs ys a b same in
    let a_too : are_listed (y ∷ xs) ≡ true = subst (λ (z : ItemState). are_listed (z ∷ xs) ≡ true) e a in
    let same_too : (q : List ℕ) → find (is_named q) (y ∷ xs) ≡ find (is_named q) (y ∷ ys) = λ q. subst (λ (z : ItemState). find (is_named q) (z ∷ xs) ≡ find (is_named q) (y ∷ ys)) e (same q) in
    ap (λ z. z ∷ xs) e
    ∙ ap (λ zs. y ∷ zs) (same_listed xs ys (and_parts (list_all (is_listed_before x) xs) (are_listed xs) a).1 (and_parts (list_all (is_listed_before y) ys) (are_listed ys) b).1 (λ q. rest_same y xs ys a_too b q (same_too q)))

-- in a list in order the first item of an identifier is the last one
pub last_is_first : (q : List ℕ) (xs : List ItemState) → are_listed xs ≡ true → find (is_named q) (reverse xs) ≡ find (is_named q) xs
last_is_first q [] h = refl
last_is_first q (x ∷ xs) h =
    let p : ItemState → Bool = is_named q in
    let parts = and_parts (list_all (is_listed_before x) xs) (are_listed xs) h in
    find_front p x xs ∙ ap (λ o. option_or o (cond (p x) (Some x) None)) (last_is_first q xs parts.1)
    ∙ sym (pushed (p x) x (find p xs) None (none_under q x xs parts.0)) ∙ or_none (cond (p x) (Some x) (find p xs))

-- catching up with items, or with the same in the order of their identifiers
pub caught_same : (copy items arranged : List ItemState) → are_listed copy ≡ true → ((q : List ℕ) → filter (is_named q) arranged ≡ filter (is_named q) items) → caught_up copy arranged ≡ caught_up copy items
caught_same copy items arranged h same =
    same_listed (caught_up copy arranged) (caught_up copy items) (listed_caught copy arranged h) (listed_caught copy items h)
    (λ q. find_caught q copy arranged ∙ ap (λ o. option_or o (find (is_named q) copy)) (find_same (is_named q) items arranged (same q)) ∙ sym (find_caught q copy items))
