-- Items that others lack, batch by batch.
use Rattle.std.proofs.Common.{◌≡◌, ◌∙◌, ◌<◌, ◌≤◌, ◌+◌, ◌-◌, ℕ, suc, Bool, true, false, not, ◌&&◌, cond, List, [], ◌∷◌, ◌++◌, length, length-append, length-take, append-nil, take, drop, Option, None, Some, IfSome, IsTrue, Ok, Err, refl, sym, ap, arith}
use Rattle.std.specs.Prelude.{◌||◌, filter, nat_lt, option_map, slice_get}
use Rattle.std.specs.List.{list_all}
use Rattle.std.specs.Ordering.{is_lt, ordering_reverse}
use Rattle.std.specs.declared.cmp.Ordering.{Ordering}
use Rattle.std.specs.declared.cmp.Ordering.TheVariants.{Less, Equal, Greater}
use Rattle.std.proofs.lemmas.Bool.{and_from, and_parts, both_ways, cond-false, cond_both, false_from_ne_true, ltb-false, ltb-true}
use Rattle.std.proofs.lemmas.List.{drop_all, take-append-drop}
use Rattle.std.proofs.lemmas.List.Elements.{filter-append}
use Rattle.std.proofs.lemmas.List.Folds.{list_all-append, list_any-append}
use Rattle.oai_item.specs.Item.{ItemState}
use Rattle.oai_item.specs.Items.{items_after}
use Rattle.oai_item.specs.Order.{are_in_order, item_cmp, precedes}
use Rattle.oai_item.specs.declared.faults.Fault.TheVariants.{Damaged, Device, TooManyPages}
use Rattle.oai_item.proofs.Around.{in_order-append, only_place}
use Rattle.oai_item.proofs.OrderLemmas.{behind-precedes, in_order-filter, not_above-below, precedes-itself, precedes-trans, total}
use Rattle.oai_names.proofs.Lists.{all-filter, all-filter_same, all-weaker, filter_none}
use Rattle.oai_catalogue.specs.Calls.{OnlyReads}
use Rattle.oai_catalogue.specs.declared.versions.Versions.{Ghosts}
use Rattle.oai_holdings.specs.Missing.{is_after, has_equal, is_same_item, is_up_to, items_past, items_up_to, sort_key_of, left_after, missing_in}
use Rattle.oai_holdings.specs.MissingParts.{earlier_of, is_further, last_in_batch}
use Rattle.oai_holdings.specs.declared.differences.OwnedKey.{OwnedKey}
use Rattle.oai_holdings.proofs.KeptLemmas.{at_most}
use Rattle.oai_holdings.proofs.MissingLemmas.{false_or, filter_alike, none_of, or_false, same_items}

-- ---- the items after a key

pub from_first : (items : List ItemState) → items_past None items ≡ items
unfolding items_past
from_first [] = refl
from_first (x ∷ items) = ap (λ (xs : List ItemState). x ∷ xs) (from_first items)

pub from_key : (key : OwnedKey) (items : List ItemState) → items_after key.stamp key.identifier items ≡ items_past (Some key) items
unfolding items_past items_after
from_key key items = refl

pub all_after : (behind : Option OwnedKey) (items : List ItemState) → list_all (λ (z : ItemState). is_after (sort_key_of z) behind) (items_past behind items) ≡ true
unfolding items_past
all_after behind items = all-filter_same (λ (z : ItemState). is_after (sort_key_of z) behind) items

pub from_ordered : (behind : Option OwnedKey) (items : List ItemState) → are_in_order items ≡ true → are_in_order (items_past behind items) ≡ true
unfolding items_past
from_ordered behind items ordered = in_order-filter (λ (item : ItemState). is_after (sort_key_of item) behind) items ordered

pub up_to_ordered : (next : Option OwnedKey) (items : List ItemState) → are_in_order items ≡ true → are_in_order (items_up_to next items) ≡ true
unfolding items_up_to
up_to_ordered next items ordered = in_order-filter (is_up_to next) items ordered

pub take_ordered : (most : ℕ) (items : List ItemState) → are_in_order items ≡ true → are_in_order (take most items) ≡ true
take_ordered most items ordered = (in_order-append (take most items) (drop most items) (ap are_in_order (take-append-drop most items) ∙ ordered)).0

-- an item after a key is one that the item of that place precedes
pub after_key : (key : OwnedKey) (x : ItemState) → is_after (sort_key_of x) (Some key) ≡ precedes (only_place key.stamp key.identifier) x
after_key key x = behind-precedes x (only_place key.stamp key.identifier)

pub after_later : (key : OwnedKey) (x y : ItemState) → is_after (sort_key_of x) (Some key) ≡ true → precedes x y ≡ true → is_after (sort_key_of y) (Some key) ≡ true
after_later key x y after later = after_key key y ∙ precedes-trans (only_place key.stamp key.identifier) x y (sym (after_key key x) ∙ after) later

-- what comes after a later key comes after the earlier one
after_earlier : (behind : Option OwnedKey) (key : OwnedKey) (x : ItemState) → is_after key behind ≡ true → is_after (sort_key_of x) (Some key) ≡ true → is_after (sort_key_of x) behind ≡ true
after_earlier None key x further after = refl
after_earlier (Some other) key x further after =
    let place : ItemState = only_place key.stamp key.identifier in
    after_key other x ∙ precedes-trans (only_place other.stamp other.identifier) place x (sym (after_key other place) ∙ further) (sym (after_key key x) ∙ after)

-- those after a key are those after it of those after an earlier one
pub from_later : (behind : Option OwnedKey) (key : OwnedKey) (items : List ItemState) → is_after key behind ≡ true → items_past (Some key) (items_past behind items) ≡ items_past (Some key) items
unfolding items_past
from_later behind key [] further = refl
from_later behind key (x ∷ items) further =
    let rest = from_later behind key items further in
    let after : List ItemState = filter (λ (z : ItemState). is_after (sort_key_of z) (Some key)) items in
    let twice : List ItemState = filter (λ (z : ItemState). is_after (sort_key_of z) (Some key)) (filter (λ (z : ItemState). is_after (sort_key_of z) behind) items) in
    cond_both (is_after (sort_key_of x) behind) (x ∷ filter (λ (z : ItemState). is_after (sort_key_of z) behind) items) (filter (λ (z : ItemState). is_after (sort_key_of z) behind) items)
    (λ (xs : List ItemState). filter (λ (z : ItemState). is_after (sort_key_of z) (Some key)) xs ≡ cond (is_after (sort_key_of x) (Some key)) (x ∷ after) after)
    (λ _. ap (λ (xs : List ItemState). cond (is_after (sort_key_of x) (Some key)) (x ∷ xs) xs) rest)
    (λ before. rest ∙ sym (cond-false (is_after (sort_key_of x) (Some key)) (x ∷ after) after
    (false_from_ne_true (is_after (sort_key_of x) (Some key)) (λ later. both_ways (is_after (sort_key_of x) behind) before (after_earlier behind key x further later)))))

-- ---- the last item that was read

-- the item ends the items
pub record Ends (x : ItemState) (items : List ItemState) : Type 0 where
  pub front : List ItemState
  pub split : items ≡ front ++ x ∷ []

one_less : (y z : ItemState) (items : List ItemState) → suc (length (z ∷ items) - 1) ≡ length (y ∷ z ∷ items) - 1
one_less y z items = omega arith

ends_at : (x : ItemState) (items : List ItemState) → slice_get items (length items - 1) ≡ Some x → Ends x items
ends_at x [] h = cc
ends_at x (y ∷ []) h = record { front = []; split = cc }
ends_at x (y ∷ z ∷ items) h = let later = ends_at x (z ∷ items) (ap (slice_get (y ∷ z ∷ items)) (one_less y z items) ∙ h) in record { front = y ∷ later.front; split = ap (λ (xs : List ItemState). y ∷ xs) later.split }

never_none : (y : ItemState) (items : List ItemState) → slice_get (y ∷ items) (length (y ∷ items) - 1) ≡ None → ⊥
never_none y [] h = cc
never_none y (z ∷ items) h = never_none z items (ap (slice_get (y ∷ z ∷ items)) (one_less y z items) ∙ h)

pub last_ends : (most : ℕ) (x : ItemState) (items : List ItemState) → last_in_batch most items ≡ Some x → Ends x items
last_ends most x items h = by_test (nat_lt (length items) most) h
  where
    by_test : (b : Bool) → cond b None (slice_get items (length items - 1)) ≡ Some x → Ends x items
    by_test true found = cc
    by_test false found = ends_at x items found

-- where it is none, none follow
nothing_more : (most : ℕ) (items : List ItemState) → 0 < most → last_in_batch most (take most items) ≡ None → drop most items ≡ []
nothing_more most items some h = drop_all most items (by_test (nat_lt (length (take most items)) most) refl h)
  where
    full : (xs : List ItemState) → 0 < length xs → slice_get xs (length xs - 1) ≡ None → ⊥
    full [] some none = omega (arith, some)
    full (x ∷ xs) some none = never_none x xs none

    by_test : (b : Bool) → nat_lt (length (take most items)) most ≡ b → cond b None (slice_get (take most items) (length (take most items) - 1)) ≡ None → length items ≤ most
    by_test true is found = omega (arith, ltb-true (length (take most items)) most is, length-take most items)
    by_test false is found = absurd (full (take most items) (omega (arith, some, ltb-false (length (take most items)) most is)) found)

-- ---- what stands behind it

-- the item stands behind that one, if there is one
abbrev is_beyond : Option ItemState → ItemState → Bool
is_beyond None item = false
is_beyond (Some last) item = precedes last item

pub beyond : (most : ℕ) (items : List ItemState) → 0 < most → are_in_order items ≡ true → list_all (is_beyond (last_in_batch most (take most items))) (drop most items) ≡ true
beyond most items some ordered = by_last (last_in_batch most (take most items)) refl
  where
    by_last : (last : Option ItemState) → last_in_batch most (take most items) ≡ last → list_all (is_beyond last) (drop most items) ≡ true
    by_last None is = ap (list_all (is_beyond None)) (nothing_more most items some is)
    by_last (Some x) is =
        let ends = last_ends most x (take most items) is in
        let parts = in_order-append (take most items) (drop most items) (ap are_in_order (take-append-drop most items) ∙ ordered) in
        let all = sym (list_all-append (λ y. list_all (precedes y) (drop most items)) ends.front (x ∷ [])) ∙ ap (list_all (λ y. list_all (precedes y) (drop most items))) (sym ends.split) ∙ parts.2 in
        (and_parts (list_all (precedes x) (drop most items)) true (and_parts (list_all (λ y. list_all (precedes y) (drop most items)) ends.front) _ all).1).0

-- it stands behind the earlier of two then
behind_one : (x z : ItemState) → precedes x z ≡ true → is_up_to (Some (sort_key_of x)) z ≡ false
behind_one x z before = ap not (behind-precedes z x ∙ before)

behind_other : (x y z : ItemState) → precedes x y ≡ false → precedes x z ≡ true → precedes y z ≡ true
behind_other x y z not_before before = by_order (item_cmp y x) refl
  where
    by_order : (o : Ordering) → item_cmp y x ≡ o → precedes y z ≡ true
    by_order Less e = precedes-trans y x z (ap is_lt e) before
    by_order Equal e = ap is_lt (total.congr y x z e) ∙ before
    by_order Greater e = absurd (both_ways (precedes x y) not_before (ap is_lt (total.antisymm x y ∙ ap ordering_reverse e)))

behind_earlier : (x y z : ItemState) → (precedes x y ≡ true → precedes x z ≡ true) → (precedes x y ≡ false → precedes y z ≡ true)
    → is_up_to (option_map sort_key_of (earlier_of (Some x) (Some y))) z ≡ false
behind_earlier x y z first second =
    cond_both (precedes x y) (Some x) (Some y) (λ (o : Option ItemState). is_up_to (option_map sort_key_of o) z ≡ false)
    (λ before. behind_one x z (first before)) (λ not_before. behind_one y z (second not_before))

pub beyond_first : (a b : Option ItemState) (z : ItemState) → is_beyond a z ≡ true → is_up_to (option_map sort_key_of (earlier_of a b)) z ≡ false
beyond_first None b z h = cc
beyond_first (Some x) None z h = behind_one x z h
beyond_first (Some x) (Some y) z h = behind_earlier x y z (λ before. h) (λ not_before. behind_other x y z not_before h)

pub beyond_second : (a b : Option ItemState) (z : ItemState) → is_beyond b z ≡ true → is_up_to (option_map sort_key_of (earlier_of a b)) z ≡ false
beyond_second a None z h = cc
beyond_second None (Some y) z h = behind_one y z h
beyond_second (Some x) (Some y) z h = behind_earlier x y z (λ before. precedes-trans x y z before h) (λ not_before. h)

-- ---- a batch

-- an item that passes is one of others exactly where it is one of those that pass
one_of_passing : (p : ItemState → Bool) (z : ItemState) (others : List ItemState) → p z ≡ true → has_equal (filter p others) z ≡ has_equal others z
one_of_passing p z [] passes = refl
one_of_passing p z (y ∷ others) passes =
    let rest = one_of_passing p z others passes in
    cond_both (p y) (y ∷ filter p others) (filter p others) (λ (ys : List ItemState). has_equal ys z ≡ has_equal (y ∷ others) z)
    (λ _. ap (λ b. is_same_item z y || b) rest)
    (λ fails. rest ∙ sym (false_or (is_same_item z y) (has_equal others z)
    (false_from_ne_true (is_same_item z y) (λ same. both_ways (p y) fails (ap p (sym ((same_items z y).0 same)) ∙ passes)))))

all_both : (p q : ItemState → Bool) (items : List ItemState) → list_all p items ≡ true → list_all q items ≡ true → list_all (λ x. p x && q x) items ≡ true
all_both p q [] h g = refl
all_both p q (x ∷ items) h g =
    let one = and_parts (p x) (list_all p items) h in
    let two = and_parts (q x) (list_all q items) g in
    and_from (p x && q x) (list_all (λ y. p y && q y) items) (and_from (p x) (q x) one.0 two.0) (all_both p q items one.1 two.1)

-- the key after which the next batch begins, by the items of both versions
abbrev pub next_of : ℕ → List ItemState → List ItemState → Option OwnedKey
next_of most items others = option_map sort_key_of (earlier_of (last_in_batch most items) (last_in_batch most others))

-- what was not read stands behind it
not_up_to : (next : Option OwnedKey) (last : Option ItemState) (most : ℕ) (items : List ItemState) → 0 < most → are_in_order items ≡ true → last ≡ last_in_batch most (take most items)
    → ((z : ItemState) → is_beyond last z ≡ true → is_up_to next z ≡ false) → list_all (λ z. not (is_up_to next z)) (drop most items) ≡ true
not_up_to next last most items some ordered is further =
    all-weaker (is_beyond last) (λ z. not (is_up_to next z)) (λ z h. ap not (further z h)) (drop most items)
    (ap (λ (o : Option ItemState). list_all (is_beyond o) (drop most items)) is ∙ beyond most items some ordered)

all_read : (next : Option OwnedKey) (most : ℕ) (items : List ItemState) → list_all (λ z. not (is_up_to next z)) (drop most items) ≡ true
    → items_up_to next (take most items) ≡ items_up_to next items
unfolding items_up_to
all_read next most items none =
    sym (
    ap (filter (is_up_to next)) (sym (take-append-drop most items))
    ∙ filter-append (is_up_to next) (take most items) (drop most items)
    ∙ ap (λ (xs : List ItemState). filter (is_up_to next) (take most items) ++ xs) (filter_none (is_up_to next) (drop most items) none)
    ∙ append-nil (filter (is_up_to next) (take most items))
    )

one_of_read : (next behind : Option OwnedKey) (most : ℕ) (others : List ItemState) (z : ItemState) → list_all (λ w. not (is_up_to next w)) (drop most (items_past behind others)) ≡ true
    → is_up_to next z ≡ true → is_after (sort_key_of z) behind ≡ true → has_equal (take most (items_past behind others)) z ≡ has_equal others z
unfolding items_past
one_of_read next behind most others z none up_to after =
    let from : List ItemState = filter (λ (item : ItemState). is_after (sort_key_of item) behind) others in
    sym (
    sym (one_of_passing (λ (item : ItemState). is_after (sort_key_of item) behind) z others after)
    ∙ ap (λ (xs : List ItemState). has_equal xs z) (sym (take-append-drop most from))
    ∙ list_any-append (is_same_item z) (take most from) (drop most from)
    ∙ or_false (has_equal (take most from) z) (has_equal (drop most from) z) (none_of (λ w. not (is_up_to next w)) z (drop most from) none (ap not up_to))
    )

-- those of the items read, up to the next key, that the others read lack are those of all items that all others lack
missing_read : (next behind : Option OwnedKey) (most : ℕ) (items others : List ItemState)
    → list_all (λ w. not (is_up_to next w)) (drop most (items_past behind items)) ≡ true → list_all (λ w. not (is_up_to next w)) (drop most (items_past behind others)) ≡ true
    → missing_in (take most (items_past behind others)) (items_up_to next (take most (items_past behind items))) ≡ missing_in others (items_up_to next (items_past behind items))
unfolding missing_in items_up_to
missing_read next behind most items others none none_too =
    let from : List ItemState = items_past behind items in
    let read : List ItemState = take most (items_past behind others) in
    ap (filter (λ z. not (has_equal read z))) (all_read next most from none)
    ∙ filter_alike (λ z. not (has_equal read z)) (λ z. not (has_equal others z)) (λ z. is_up_to next z && is_after (sort_key_of z) behind) (filter (is_up_to next) from)
    (all_both (is_up_to next) (λ z. is_after (sort_key_of z) behind) (filter (is_up_to next) from) (all-filter_same (is_up_to next) from) (all-filter (λ (z : ItemState). is_after (sort_key_of z) behind) (is_up_to next) from (all_after behind items)))
    (λ z h. let parts = and_parts (is_up_to next z) (is_after (sort_key_of z) behind) h in ap not (one_of_read next behind most others z none_too parts.0 parts.1))

pub batch_read : (most : ℕ) (behind : Option OwnedKey) (items others read others_read : List ItemState) → 0 < most → are_in_order items ≡ true → are_in_order others ≡ true
    → read ≡ take most (items_past behind items) → others_read ≡ take most (items_past behind others)
    → missing_in others_read (items_up_to (next_of most read others_read) read) ≡ missing_in others (items_up_to (next_of most read others_read) (items_past behind items))
batch_read most behind items others read others_read some ordered others_ordered is is_too =
    let next : Option OwnedKey = next_of most read others_read in
    let none = not_up_to next (last_in_batch most read) most (items_past behind items) some (from_ordered behind items ordered) (ap (last_in_batch most) is) (beyond_first (last_in_batch most read) (last_in_batch most others_read)) in
    let none_too = not_up_to next (last_in_batch most others_read) most (items_past behind others) some (from_ordered behind others others_ordered) (ap (last_in_batch most) is_too) (beyond_second (last_in_batch most read) (last_in_batch most others_read)) in
    ap (λ (xs : List ItemState). missing_in xs (items_up_to next read)) is_too
    ∙ ap (λ (xs : List ItemState). missing_in (take most (items_past behind others)) (items_up_to next xs)) is
    ∙ missing_read next behind most items others none none_too

pub read_ordered : (most : ℕ) (behind : Option OwnedKey) (items read : List ItemState) → are_in_order items ≡ true → read ≡ take most (items_past behind items) → are_in_order read ≡ true
read_ordered most behind items read ordered is = ap are_in_order is ∙ take_ordered most (items_past behind items) (from_ordered behind items ordered)

-- ---- the next key comes after the one before it

last_passes : (p : ItemState → Bool) (x : ItemState) (items : List ItemState) → Ends x items → list_all p items ≡ true → p x ≡ true
last_passes p x items ends all =
    let both = and_parts (list_all p ends.front) (list_all p (x ∷ [])) (sym (list_all-append p ends.front (x ∷ [])) ∙ ap (list_all p) (sym ends.split) ∙ all) in
    (and_parts (p x) true both.1).0

all_take : (p : ItemState → Bool) (most : ℕ) (items : List ItemState) → list_all p items ≡ true → list_all p (take most items) ≡ true
all_take p most items all =
    (and_parts (list_all p (take most items)) (list_all p (drop most items)) (sym (list_all-append p (take most items) (drop most items)) ∙ ap (list_all p) (take-append-drop most items) ∙ all)).0

is_last_further : (most : ℕ) (behind : Option OwnedKey) (items read : List ItemState) → read ≡ take most (items_past behind items) → is_further (last_in_batch most read) behind ≡ true
is_last_further most behind items read is = by_last (last_in_batch most read) refl
  where
    by_last : (last : Option ItemState) → last_in_batch most read ≡ last → is_further last behind ≡ true
    by_last None e = refl
    by_last (Some x) e =
        last_passes (λ (z : ItemState). is_after (sort_key_of z) behind) x read (last_ends most x read e)
        (ap (list_all (λ (z : ItemState). is_after (sort_key_of z) behind)) is ∙ all_take (λ (z : ItemState). is_after (sort_key_of z) behind) most (items_past behind items) (all_after behind items))

further_earlier : (a b : Option ItemState) (behind : Option OwnedKey) → is_further a behind ≡ true → is_further b behind ≡ true → is_further (earlier_of a b) behind ≡ true
further_earlier None b behind h g = g
further_earlier (Some x) None behind h g = h
further_earlier (Some x) (Some y) behind h g =
    cond_both (precedes x y) (Some x) (Some y) (λ (o : Option ItemState). is_further o behind ≡ true) (λ _. h) (λ _. g)

pub is_next_further : (most : ℕ) (behind : Option OwnedKey) (items others read others_read : List ItemState)
    → read ≡ take most (items_past behind items) → others_read ≡ take most (items_past behind others)
    → is_further (earlier_of (last_in_batch most read) (last_in_batch most others_read)) behind ≡ true
is_next_further most behind items others read others_read is is_too =
    further_earlier (last_in_batch most read) (last_in_batch most others_read) behind (is_last_further most behind items read is) (is_last_further most behind others others_read is_too)

-- the key of an item that comes after one does
pub next_after : (last : Option ItemState) (behind : Option OwnedKey) → is_further last behind ≡ true → IfSome (option_map sort_key_of last) (λ next. is_after next behind ≡ true)
next_after None behind h = tt
next_after (Some x) behind h = h

-- ---- few

pub few_up_to : (next : Option OwnedKey) (items : List ItemState) (found most : ℕ) → length items ≤ most → found ≤ length (items_up_to next items) → found ≤ most
unfolding items_up_to
few_up_to next items found most few fewer = let kept = at_most (is_up_to next) items in omega (arith, few, fewer, kept)

-- ---- two reads

fault_apart : Damaged ≡ TooManyPages → ⊥
fault_apart h = cc

fault_other : Damaged ≡ Device → ⊥
fault_other h = cc

-- what was damaged is so only where the device is not honest
pub damaged_reads : {V A B : Type 0} (g : Ghosts V) (a b : A) (old mid new : V) → OnlyReads g (Ok a) old mid → OnlyReads g (Ok b) mid new → (IsTrue (g.honest old) → ⊥)
    → OnlyReads {A = B} g (Err Damaged) old new
damaged_reads g a b old mid new first second never = record {
  same = second.same ∙ first.same;
  store = record {
    room = record {
      enough = λ full. absurd (fault_apart full);
      used = let one = first.store.room.used in let two = second.store.room.used in omega arith;
    };
    device = record {
      count = let one = first.store.device.count in let two = second.store.device.count in omega arith;
      device = λ failed. absurd (fault_other failed);
    };
    honesty = record { same = second.store.honesty.same ∙ first.store.honesty.same; damaged = λ _. false_from_ne_true (g.honest old) never };
  };
}

-- ---- how far a batch goes

-- no item comes after the last of them
none_after_last : (x : ItemState) (items : List ItemState) → are_in_order items ≡ true → Ends x items → items_past (Some (sort_key_of x)) items ≡ []
unfolding items_past
none_after_last x items ordered ends =
    let parts = in_order-append ends.front (x ∷ []) (ap are_in_order (sym ends.split) ∙ ordered) in
    let passes : ItemState → Bool = λ (z : ItemState). not (is_after (sort_key_of z) (Some (sort_key_of x))) in
    let before : list_all passes ends.front ≡ true =
    all-weaker (λ y. list_all (precedes y) (x ∷ [])) passes (λ y ahead. ap not (not_above-below x.stamp x.identifier y (and_parts (precedes y x) true ahead).0)) ends.front parts.2 in
    let itself : passes x ≡ true = ap not (behind-precedes x x ∙ precedes-itself x) in
    filter_none (λ (z : ItemState). is_after (sort_key_of z) (Some (sort_key_of x))) items
    (ap (list_all passes) ends.split ∙ list_all-append passes ends.front (x ∷ []) ∙ and_from (list_all passes ends.front) (list_all passes (x ∷ [])) before (and_from (passes x) true itself refl))

from_both : (key : Option OwnedKey) (some more : List ItemState) → items_past key (some ++ more) ≡ items_past key some ++ items_past key more
unfolding items_past
from_both key some more = filter-append (λ (z : ItemState). is_after (sort_key_of z) key) some more

from_fewer : (key : Option OwnedKey) (items : List ItemState) → length (items_past key items) ≤ length items
unfolding items_past
from_fewer key items = at_most (λ (z : ItemState). is_after (sort_key_of z) key) items

full_enough : (most : ℕ) (x : ItemState) (items : List ItemState) → last_in_batch most items ≡ Some x → most ≤ length items
full_enough most x items h = by_test (nat_lt (length items) most) refl h
  where
    by_test : (b : Bool) → nat_lt (length items) most ≡ b → cond b None (slice_get items (length items - 1)) ≡ Some x → most ≤ length items
    by_test true is found = cc
    by_test false is found = ltb-false (length items) most is

-- behind the last of so many items that many less are left
passed_full : (most : ℕ) (behind : Option OwnedKey) (items : List ItemState) (x : ItemState) → are_in_order items ≡ true → last_in_batch most (take most (items_past behind items)) ≡ Some x
    → is_after (sort_key_of x) behind ≡ true → length (items_past (Some (sort_key_of x)) items) + most ≤ length (items_past behind items)
passed_full most behind items x ordered is further =
    let from : List ItemState = items_past behind items in
    let some : List ItemState = take most from in
    let more : List ItemState = drop most from in
    let key : Option OwnedKey = Some (sort_key_of x) in
    let all : some ++ more ≡ from = take-append-drop most from in
    let left : items_past key items ≡ items_past key more =
    sym (from_later behind (sort_key_of x) items further) ∙ ap (items_past key) (sym all) ∙ from_both key some more
    ∙ ap (λ (xs : List ItemState). xs ++ items_past key more) (none_after_last x some (take_ordered most from (from_ordered behind items ordered)) (last_ends most x some is)) in
    let lengths : length some + length more ≡ length from = sym (length-append some more) ∙ ap length all in
    let few : length (items_past key items) ≤ length more = rw left (from_fewer key more) in
    let enough : most ≤ length some = full_enough most x some is in
    omega (arith, lengths, few, enough)

passed_some : (behind : Option OwnedKey) (key : OwnedKey) (items : List ItemState) → is_after key behind ≡ true → length (items_past (Some key) items) ≤ length (items_past behind items)
passed_some behind key items further = rw (← from_later behind key items further) (from_fewer (Some key) (items_past behind items))

-- of the items of both so many less are left behind the next key
pub goes_past : (most : ℕ) (behind : Option OwnedKey) (items others read others_read : List ItemState) → are_in_order items ≡ true → are_in_order others ≡ true
    → read ≡ take most (items_past behind items) → others_read ≡ take most (items_past behind others)
    → IfSome (next_of most read others_read) (λ next. left_after items others (Some next) + most ≤ left_after items others behind)
goes_past most behind items others read others_read ordered others_ordered is is_too =
    by_last (last_in_batch most read) (last_in_batch most others_read) (sym (ap (last_in_batch most) is)) (sym (ap (last_in_batch most) is_too)) (is_last_further most behind items read is) (is_last_further most behind others others_read is_too)
  where
    by_last : (a b : Option ItemState) → last_in_batch most (take most (items_past behind items)) ≡ a → last_in_batch most (take most (items_past behind others)) ≡ b
        → is_further a behind ≡ true → is_further b behind ≡ true
        → IfSome (option_map sort_key_of (earlier_of a b)) (λ next. left_after items others (Some next) + most ≤ left_after items others behind)
    by_last None None e f h g = tt
    by_last None (Some y) e f h g = omega (arith, passed_full most behind others y others_ordered f g, passed_some behind (sort_key_of y) items g)
    by_last (Some x) None e f h g = omega (arith, passed_full most behind items x ordered e h, passed_some behind (sort_key_of x) others h)
    by_last (Some x) (Some y) e f h g =
        cond_both (precedes x y) (Some x) (Some y) (λ (o : Option ItemState). IfSome (option_map sort_key_of o) (λ next. left_after items others (Some next) + most ≤ left_after items others behind))
        (λ _. omega (arith, passed_full most behind items x ordered e h, passed_some behind (sort_key_of x) others h))
        (λ _. omega (arith, passed_full most behind others y others_ordered f g, passed_some behind (sort_key_of y) items g))
