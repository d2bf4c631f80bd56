-- Items that others lack: equality of items is decided, and a pass over both lists finds them.
use Rattle.std.proofs.Common.{◌≡◌, ◌∙◌, inl, inr, Bool, true, false, not, ◌&&◌, cond, List, [], ◌∷◌, ◌++◌, append-nil, append_assoc, refl, sym, ap}
use Rattle.std.specs.Prelude.{◌||◌, filter}
use Rattle.std.specs.Bool.{Decides, beq}
use Rattle.std.specs.List.{list_all}
use Rattle.std.specs.Cmp.Lexicographic.{pointwise}
use Rattle.std.specs.Ordering.{int_eq}
use Rattle.std.specs.Str.{bytes_eq}
use Rattle.std.proofs.lemmas.Bool.{and_from, and_parts, both_ways, cond-true, cond-false, false_from_ne_true, not_from_false, not_from_true, or_cases, or_from, or_left, or_right}
use Rattle.std.proofs.lemmas.Bool.Decides.{Decides-int_eq}
use Rattle.std.proofs.lemmas.List.Folds.{list_all-append, list_any-append}
use Rattle.std.proofs.lemmas.Slice.Eq.{bytes_eq-Decides, slice_eq-Decides}
use Rattle.oai_item.specs.Item.{ItemState, Metadata}
use Rattle.oai_item.specs.Order.{are_in_order, precedes}
use Rattle.oai_item.specs.declared.fields.Field.{Field}
use Rattle.oai_item.proofs.Around.{in_order-append}
use Rattle.oai_item.proofs.Members.{Member}
use Rattle.oai_item.proofs.OrderLemmas.{precedes-itself, precedes-trans}
use Rattle.oai_names.proofs.Lists.{all-weaker}
use Rattle.oai_holdings.specs.Changes.{is_same_field, is_same_record}
use Rattle.oai_holdings.specs.Missing.{has_equal, is_same_item, missing_in}
use Rattle.oai_holdings.specs.MissingParts.{AreFrom, begins_before, is_first}

-- ---- equal items

same_booleans : (a b : Bool) → Decides (beq a b) (a ≡ b)
same_booleans true true = (λ e. refl, λ e. refl)
same_booleans true false = (λ e. sym e, λ e. sym e)
same_booleans false true = (λ e. e, λ e. e)
same_booleans false false = (λ e. refl, λ e. refl)

same_fields : (a b : Field) → Decides (is_same_field a b) (a ≡ b)
same_fields a b =
    let name = bytes_eq-Decides a.name b.name in
    let text = bytes_eq-Decides a.text b.text in (
      (λ h. let parts = and_parts (bytes_eq a.name b.name) (bytes_eq a.text b.text) h in
          let names = name.0 parts.0 in
          let texts = text.0 parts.1 in
          λ k. record { name = names k; text = texts k }),
      (λ e. and_from (bytes_eq a.name b.name) (bytes_eq a.text b.text) (name.1 (ap (λ (f : Field). f.name) e)) (text.1 (ap (λ (f : Field). f.text) e))),
    )

same_records : (a b : Metadata) → Decides (is_same_record a b) (a ≡ b)
same_records a b =
    let prefix = bytes_eq-Decides a.0 b.0 in
    let fields = slice_eq-Decides same_fields a.1 b.1 (pointwise is_same_field a.1 b.1) refl in (
      (λ h. let parts = and_parts (bytes_eq a.0 b.0) (pointwise is_same_field a.1 b.1) h in
          let prefixes = prefix.0 parts.0 in
          let all = fields.0 parts.1 in
          λ k. (prefixes k, all k)),
      (λ e. and_from (bytes_eq a.0 b.0) (pointwise is_same_field a.1 b.1) (prefix.1 (ap (λ (m : Metadata). m.0) e)) (fields.1 (ap (λ (m : Metadata). m.1) e))),
    )

five : (a b c d e : Bool) → a ≡ true → b ≡ true → c ≡ true → d ≡ true → e ≡ true → (a && b && c && d && e) ≡ true
five a b c d e one two three four last = rw (one, two, three, four, last) refl

five_parts : (a b c d e : Bool) → (a && b && c && d && e) ≡ true → (a ≡ true) × (b ≡ true) × (c ≡ true) × (d ≡ true) × (e ≡ true)
five_parts true true true true e h = (refl, refl, refl, refl, h)
five_parts true true true false e h = cc
five_parts true true false d e h = cc
five_parts true false c d e h = cc
five_parts false b c d e h = cc

pub same_items : (a b : ItemState) → Decides (is_same_item a b) (a ≡ b)
same_items a b =
    let stamp = Decides-int_eq a.stamp b.stamp in
    let identifier = bytes_eq-Decides a.identifier b.identifier in
    let live = same_booleans a.live b.live in
    let sets = slice_eq-Decides bytes_eq-Decides a.sets b.sets (pointwise bytes_eq a.sets b.sets) refl in
    let formats = slice_eq-Decides same_records a.formats b.formats (pointwise is_same_record a.formats b.formats) refl in (
      (λ h. let parts = five_parts (int_eq a.stamp b.stamp) (bytes_eq a.identifier b.identifier) (beq a.live b.live) (pointwise bytes_eq a.sets b.sets) (pointwise is_same_record a.formats b.formats) h in
          let one = stamp.0 parts.0 in
          let two = identifier.0 parts.1 in
          let three = live.0 parts.2 in
          let four = sets.0 parts.3 in
          let last = formats.0 parts.4 in
          λ k. record { identifier = two k; stamp = one k; live = three k; sets = four k; formats = last k }),
      (λ e. five (int_eq a.stamp b.stamp) (bytes_eq a.identifier b.identifier) (beq a.live b.live) (pointwise bytes_eq a.sets b.sets) (pointwise is_same_record a.formats b.formats)
          (stamp.1 (ap (λ (i : ItemState). i.stamp) e)) (identifier.1 (ap (λ (i : ItemState). i.identifier) e)) (live.1 (ap (λ (i : ItemState). i.live) e))
          (sets.1 (ap (λ (i : ItemState). i.sets) e)) (formats.1 (ap (λ (i : ItemState). i.formats) e))),
    )

-- ---- an item that is one of others

-- an item that fails where all others pass is none of them
pub none_of : (p : ItemState → Bool) (x : ItemState) (others : List ItemState) → list_all p others ≡ true → p x ≡ false → has_equal others x ≡ false
none_of p x [] all fails = refl
none_of p x (y ∷ others) all fails =
    let parts = and_parts (p y) (list_all p others) all in
    or_from (is_same_item x y) (has_equal others x)
    (false_from_ne_true (is_same_item x y) (λ same. both_ways (p x) fails (ap p ((same_items x y).0 same) ∙ parts.0)))
    (none_of p x others parts.1 fails)

pub member_of : (x : ItemState) (others : List ItemState) → has_equal others x ≡ true → Member x others
member_of x [] h = cc
member_of x (y ∷ others) h =
    elim (or_cases (is_same_item x y) (has_equal others x) h) [
      | inl same ↦ inl ((same_items x y).0 same)
      | inr later ↦ inr (member_of x others later)
    ]

pub of_member : (x : ItemState) (others : List ItemState) → Member x others → has_equal others x ≡ true
of_member x [] h = absurd h
of_member x (y ∷ others) h =
    elim h [
      | inl same ↦ or_left (is_same_item x y) (has_equal others x) ((same_items x y).1 same)
      | inr later ↦ or_right (is_same_item x y) (has_equal others x) (of_member x others later)
    ]

-- two filters that agree on the items leave the same
pub filter_alike : (p q r : ItemState → Bool) (items : List ItemState) → list_all r items ≡ true → ((x : ItemState) → r x ≡ true → p x ≡ q x) → filter p items ≡ filter q items
filter_alike p q r [] all alike = refl
filter_alike p q r (x ∷ items) all alike =
    let parts = and_parts (r x) (list_all r items) all in
    let rest = filter_alike p q r items parts.1 alike in
    let here = alike x parts.0 in
    λ k. cond (here k) (x ∷ rest k) (rest k)

-- ---- a pass over both lists

pub or_false : (a b : Bool) → b ≡ false → (a || b) ≡ a
or_false true b h = refl
or_false false b h = h

pub false_or : (a b : Bool) → a ≡ false → (a || b) ≡ b
false_or true b h = cc
false_or false b h = refl

-- those that precede an item are not it
passed : (x : ItemState) (front rest : List ItemState) → list_all (λ (other : ItemState). precedes other x) front ≡ true → has_equal (front ++ rest) x ≡ has_equal rest x
passed x front rest before =
    list_any-append (is_same_item x) front rest
    ∙ false_or (has_equal front x) (has_equal rest x) (none_of (λ (other : ItemState). precedes other x) x front before (precedes-itself x))

-- and of those from there on only the first may be
first_alone : (x : ItemState) (rest : List ItemState) → are_in_order rest ≡ true → begins_before x rest ≡ false → has_equal rest x ≡ is_first x rest
first_alone x [] ordered reached = refl
first_alone x (y ∷ rest) ordered reached =
    let parts = and_parts (list_all (precedes y) rest) (are_in_order rest) ordered in
    or_false (is_same_item x y) (has_equal rest x) (none_of (precedes y) x rest parts.0 reached)

-- none of the items behind one is among those that precede it
passed_too : (x : ItemState) (items front rest : List ItemState) → list_all (precedes x) items ≡ true → list_all (λ (other : ItemState). precedes other x) front ≡ true
    → missing_in (front ++ rest) items ≡ missing_in rest items
unfolding missing_in
passed_too x items front rest behind before =
    filter_alike (λ z. not (has_equal (front ++ rest) z)) (λ z. not (has_equal rest z)) (precedes x) items behind
    (λ z later. ap not (passed z front rest (all-weaker (λ (other : ItemState). precedes other x) (λ (other : ItemState). precedes other z) (λ y earlier. precedes-trans y x z earlier later) front before)))

-- one item more
pub next_missing : (x : ItemState) (items others rest : List ItemState) → are_in_order (x ∷ items) ≡ true → are_in_order others ≡ true → AreFrom x others rest
    → (missing_in others (x ∷ items) ≡ cond (not (is_first x rest)) (x ∷ missing_in rest items) (missing_in rest items)) × (are_in_order items ≡ true) × (are_in_order rest ≡ true)
unfolding missing_in
next_missing x items others rest ordered others_ordered from =
    let parts = and_parts (list_all (precedes x) items) (are_in_order items) ordered in
    let cut = in_order-append from.front rest (ap are_in_order (sym from.split) ∙ others_ordered) in
    let one : has_equal others x ≡ is_first x rest =
    ap (λ (ys : List ItemState). has_equal ys x) from.split ∙ passed x from.front rest from.before ∙ first_alone x rest cut.1 from.reached in
    let more : missing_in others items ≡ missing_in rest items =
    ap (λ (ys : List ItemState). missing_in ys items) from.split ∙ passed_too x items from.front rest parts.0 from.before in
    ((λ k. cond (not (one k)) (x ∷ more k) (more k)), parts.1, cut.1)

pub none_missing : (others : List ItemState) → missing_in others [] ≡ []
unfolding missing_in
none_missing others = refl

-- one other more precedes the item
pub one_more_before : (x : ItemState) (others left front : List ItemState) (other : ItemState) (rest : List ItemState) → others ≡ front ++ left
    → list_all (λ (y : ItemState). precedes y x) front ≡ true → left ≡ other ∷ rest → precedes other x ≡ true
    → (passed : List ItemState) × (others ≡ passed ++ rest) × (list_all (λ (y : ItemState). precedes y x) passed ≡ true)
one_more_before x others left front other rest split before first earlier = (
  front ++ other ∷ [],
  split ∙ ap (λ (ys : List ItemState). front ++ ys) first ∙ sym (append_assoc front (other ∷ []) rest),
  list_all-append (λ (y : ItemState). precedes y x) front (other ∷ [])
      ∙ and_from (list_all (λ (y : ItemState). precedes y x) front) (list_all (λ (y : ItemState). precedes y x) (other ∷ [])) before (and_from (precedes other x) true earlier refl),
)

-- what was found so far, and those of the items left that the others left lack, are all, if both lists are in order
abbrev pub IsSoFar : List ItemState → List ItemState → List ItemState → List ItemState → List ItemState → Type 0
IsSoFar items others found items_left others_left =
    are_in_order items ≡ true → are_in_order others ≡ true
    → (found ++ missing_in others_left items_left ≡ missing_in others items) × (are_in_order items_left ≡ true) × (are_in_order others_left ≡ true)

pub one_more_found : (items others found items_left others_left : List ItemState) (x : ItemState) (later rest : List ItemState) → IsSoFar items others found items_left others_left
    → items_left ≡ x ∷ later → AreFrom x others_left rest → is_first x rest ≡ false → IsSoFar items others (found ++ x ∷ []) later rest
one_more_found items others found items_left others_left x later rest so_far first from missing items_ordered others_ordered =
    let was = so_far items_ordered others_ordered in
    let step = next_missing x later others_left rest (ap are_in_order (sym first) ∙ was.1) was.2 from in (
      append_assoc found (x ∷ []) (missing_in rest later)
          ∙ ap (λ (ys : List ItemState). found ++ ys) (sym (step.0 ∙ cond-true (not (is_first x rest)) (x ∷ missing_in rest later) (missing_in rest later) (not_from_false (is_first x rest) missing)))
          ∙ ap (λ (ys : List ItemState). found ++ missing_in others_left ys) (sym first)
          ∙ was.0,
      step.1,
      step.2,
    )

pub one_more_shared : (items others found items_left others_left : List ItemState) (x : ItemState) (later rest : List ItemState) → IsSoFar items others found items_left others_left
    → items_left ≡ x ∷ later → AreFrom x others_left rest → is_first x rest ≡ true → IsSoFar items others found later rest
one_more_shared items others found items_left others_left x later rest so_far first from shared items_ordered others_ordered =
    let was = so_far items_ordered others_ordered in
    let step = next_missing x later others_left rest (ap are_in_order (sym first) ∙ was.1) was.2 from in (
      ap (λ (ys : List ItemState). found ++ ys) (sym (step.0 ∙ cond-false (not (is_first x rest)) (x ∷ missing_in rest later) (missing_in rest later) (not_from_true (is_first x rest) shared)))
          ∙ ap (λ (ys : List ItemState). found ++ missing_in others_left ys) (sym first)
          ∙ was.0,
      step.1,
      step.2,
    )

pub all_found : (items others found items_left others_left : List ItemState) → IsSoFar items others found items_left others_left → items_left ≡ []
    → are_in_order items ≡ true → are_in_order others ≡ true → found ≡ missing_in others items
all_found items others found items_left others_left so_far none items_ordered others_ordered =
    sym (append-nil found) ∙ ap (λ (ys : List ItemState). found ++ ys) (sym (none_missing others_left)) ∙ ap (λ (ys : List ItemState). found ++ missing_in others_left ys) (sym none)
    ∙ (so_far items_ordered others_ordered).0
