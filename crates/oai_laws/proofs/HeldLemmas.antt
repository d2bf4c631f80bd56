-- What a copy holds under each identifier, after it caught up with a selection.
use Rattle.std.proofs.Common.{◌≡◌, ◌∙◌, ◌↔◌, ◌⊎◌, inl, inr, ℕ, ℤ, ◌≤ℤ◌, Bool, true, false, cond, List, [], ◌∷◌, Option, None, Some, refl, sym, ap}
use Rattle.std.specs.Prelude.{find, reverse}
use Rattle.std.specs.List.{Contains, list_all}
use Rattle.std.specs.Option.{option_or}
use Rattle.std.proofs.lemmas.Bool.{and_from, and_parts, cases_Bool, cond-true, cond-false, false≢true, not-true, not_from_false, false_from_ne_true}
use Rattle.std.proofs.lemmas.List.Sorted.{Contains-permutation, IsPermutation-reverse, IsPermutation-sym}
use Rattle.oai_names.proofs.Lists.{all-weaker}
use Rattle.oai_item.specs.Item.{ItemState, has_record}
use Rattle.oai_item.specs.Items.{are_apart, is_apart, is_named, item_named}
use Rattle.oai_item.proofs.Members.{Member, contains_from, member_from}
use Rattle.oai_copy.specs.Copies.{are_listed, caught_up, is_listed_before}
use Rattle.oai_copy.proofs.ListedLemmas.{find_caught}
use Rattle.oai_copy.proofs.OrderLemmas.{before-apart, eq_is, eq_itself}
use Rattle.oai_laws.proofs.SinceLemmas.{IsNewer, IsSince, has_in}

-- ---- what is found

found_member : (p : ItemState → Bool) (xs : List ItemState) (z : ItemState) → find p xs ≡ Some z → Member z xs × (p z ≡ true)
found_member p [] z h = cc
found_member p (x ∷ xs) z h =
    elim (cases_Bool (p x)) [
      | inl passes ↦
          let there : Some x ≡ Some z = sym (cond-true (p x) (Some x) (find p xs) passes) ∙ h in
          let is : z ≡ x = cc in (inl is, ap p is ∙ passes)
      | inr fails ↦
          let later = found_member p xs z (sym (cond-false (p x) (Some x) (find p xs) fails) ∙ h) in (inr later.0, later.1)
    ]

pub found_in : (p : ItemState → Bool) (xs : List ItemState) (z : ItemState) → find p xs ≡ Some z → Contains xs z × (p z ≡ true)
found_in p xs z h = let found = found_member p xs z h in (contains_from xs z found.0, found.1)

none_member : (p : ItemState → Bool) (xs : List ItemState) (z : ItemState) → find p xs ≡ None → Member z xs → p z ≡ false
none_member p [] z h m = absurd m
none_member p (x ∷ xs) z h m =
    elim (cases_Bool (p x)) [
      | inl passes ↦ let clash : Some x ≡ None = sym (cond-true (p x) (Some x) (find p xs) passes) ∙ h in cc
      | inr fails ↦
          elim m [
            | inl here ↦ ap p here ∙ fails
            | inr later ↦ none_member p xs z (sym (cond-false (p x) (Some x) (find p xs) fails) ∙ h) later
          ]
    ]

in_reversed : (xs : List ItemState) (z : ItemState) → Contains xs z → Contains (reverse xs) z
in_reversed xs z h = Contains-permutation xs (reverse xs) z (IsPermutation-reverse xs) h

from_reversed : (xs : List ItemState) (z : ItemState) → Contains (reverse xs) z → Contains xs z
from_reversed xs z h = Contains-permutation (reverse xs) xs z (IsPermutation-sym xs (reverse xs) (IsPermutation-reverse xs)) h

member_passes : (p : ItemState → Bool) (xs : List ItemState) (z : ItemState) → list_all p xs ≡ true → Member z xs → p z ≡ true
member_passes p [] z h m = absurd m
member_passes p (x ∷ xs) z h m =
    let parts = and_parts (p x) (list_all p xs) h in
    elim m [
      | inl here ↦ ap p here ∙ parts.0
      | inr later ↦ member_passes p xs z parts.1 later
    ]

-- of items with different identifiers the one that has an identifier is found under it
named_member : (q : List ℕ) (xs : List ItemState) (z : ItemState) → are_apart xs ≡ true → Member z xs → is_named q z ≡ true → find (is_named q) xs ≡ Some z
named_member q [] z h m named = absurd m
named_member q (x ∷ xs) z h m named =
    let parts = and_parts (list_all (is_apart x) xs) (are_apart xs) h in
    elim m [
      | inl here ↦ cond-true (is_named q x) (Some x) (find (is_named q) xs) (ap (is_named q) (sym here) ∙ named) ∙ ap Some (sym here)
      | inr later ↦
          let other : is_named x.identifier z ≡ false = not-true (is_named x.identifier z) (member_passes (is_apart x) xs z parts.0 later) in
          let not_it : is_named q x ≡ false =
          false_from_ne_true (is_named q x) (λ same. false≢true (sym other ∙ ap (λ (t : List ℕ). is_named t z) (eq_is x.identifier q same) ∙ named)) in
          cond-false (is_named q x) (Some x) (find (is_named q) xs) not_it ∙ named_member q xs z parts.1 later named
    ]

pub named_in : (q : List ℕ) (xs : List ItemState) (z : ItemState) → are_apart xs ≡ true → Contains xs z → is_named q z ≡ true → find (is_named q) xs ≡ Some z
named_in q xs z h c named = named_member q xs z h (member_from xs z c) named

-- ---- a copy

-- of an item, if there is one, only one that has a record in the metadataPrefix
abbrev pub where_record : List ℕ → Option ItemState → Option ItemState
where_record prefix None = None
where_record prefix (Some item) = cond (has_record prefix item.formats) (Some item) None

-- under each identifier the copy holds the item that is held there, where it has a record in the metadataPrefix
abbrev pub IsHeld : List ℕ → List ItemState → List ItemState → Type 0
IsHeld prefix items copy = (q : List ℕ) → find (is_named q) copy ≡ where_record prefix (find (is_named q) items)

-- the selection is of items that are held and have a record in the metadataPrefix, and has all of those whose datestamp is not before a bound
pub record IsChosen (prefix : List ℕ) (bound : ItemState → Type 0) (items selection : List ItemState) : Type 0 where
  pub only : (item : ItemState) → Contains selection item → Contains items item × (has_record prefix item.formats ≡ true)
  pub all : (item : ItemState) → Contains items item → has_record prefix item.formats ≡ true → bound item → Contains selection item

some_or_none : (o : Option ItemState) → (o ≡ None) ⊎ ((item : ItemState) × (o ≡ Some item))
some_or_none None = inl refl
some_or_none (Some item) = inr (item, refl)

-- under an identifier that stands in the selection
chosen : (prefix : List ℕ) (bound : ItemState → Type 0) (items selection : List ItemState) (q : List ℕ) (z : ItemState) (before : Option ItemState) → are_apart items ≡ true → IsChosen prefix bound items selection
    → find (is_named q) (reverse selection) ≡ Some z → option_or (find (is_named q) (reverse selection)) before ≡ where_record prefix (find (is_named q) items)
chosen prefix bound items selection q z before apart selects is =
    let found = found_in (is_named q) (reverse selection) z is in
    let there = selects.only z (from_reversed selection z found.0) in
    ap (λ o. option_or o before) is
    ∙ sym (ap (where_record prefix) (named_in q items z apart there.0 found.1) ∙ cond-true (has_record prefix z.formats) (Some z) None there.1)

-- under one that does not, an item has no record in the metadataPrefix, or is not within the bound
not_chosen : (prefix : List ℕ) (bound : ItemState → Type 0) (items selection : List ItemState) (q : List ℕ) (y : ItemState) → IsChosen prefix bound items selection → find (is_named q) (reverse selection) ≡ None
    → find (is_named q) items ≡ Some y → has_record prefix y.formats ≡ true → bound y → ⊥
not_chosen prefix bound items selection q y selects none is has within =
    let found = found_in (is_named q) items y is in
    let there = selects.all y found.0 has within in
    false≢true (sym (none_member (is_named q) (reverse selection) y none (member_from (reverse selection) y (in_reversed selection y there))) ∙ found.1)

-- ---- the first harvest

abbrev pub AnyItem : ItemState → Type 0
AnyItem item = Unit {0}

first_at : (prefix : List ℕ) (items selection : List ItemState) → are_apart items ≡ true → IsChosen prefix AnyItem items selection → (q : List ℕ)
    → option_or (find (is_named q) (reverse selection)) None ≡ where_record prefix (find (is_named q) items)
first_at prefix items selection apart chosen_all q =
    elim (some_or_none (find (is_named q) (reverse selection))) [
      | inr some ↦ chosen prefix AnyItem items selection q some.0 None apart chosen_all some.1
      | inl none ↦
          ap (λ o. option_or o None) none
          ∙ elim (some_or_none (find (is_named q) items)) [
            | inl nothing ↦ sym (ap (where_record prefix) nothing)
            | inr there ↦
                elim (cases_Bool (has_record prefix there.0.formats)) [
                  | inl has ↦ absurd (not_chosen prefix AnyItem items selection q there.0 chosen_all none there.1 has tt)
                  | inr lacks ↦ sym (ap (where_record prefix) there.1 ∙ cond-false (has_record prefix there.0.formats) (Some there.0) None lacks)
                ]
          ]
    ]

pub held_first : (prefix : List ℕ) (items selection : List ItemState) → are_apart items ≡ true → IsChosen prefix AnyItem items selection → IsHeld prefix items (caught_up [] selection)
held_first prefix items selection apart chosen_all q = find_caught q [] selection ∙ first_at prefix items selection apart chosen_all q

-- ---- the next

abbrev pub IsFromOn : ℤ → ItemState → Type 0
IsFromOn stamp item = stamp ≤ℤ item.stamp

-- what is not within the bound is as it was
as_it_was : (prefix : List ℕ) (stamp : ℤ) (old new : Option ItemState) → (new ≡ old) ⊎ IsNewer stamp old new → ((y : ItemState) → new ≡ Some y → has_record prefix y.formats ≡ true → stamp ≤ℤ y.stamp → ⊥)
    → where_record prefix old ≡ where_record prefix new
as_it_was prefix stamp old new (inl same) none = ap (where_record prefix) (sym same)
as_it_was prefix stamp old new (inr newer) none =
    let lacks : has_record prefix newer.item.formats ≡ false = false_from_ne_true (has_record prefix newer.item.formats) (λ has. none newer.item newer.there has newer.dated) in
    lacked old (λ had. none newer.item newer.there (newer.formats prefix had) newer.dated)
    ∙ sym (ap (where_record prefix) newer.there ∙ cond-false (has_record prefix newer.item.formats) (Some newer.item) None lacks)
  where
    lacked : (o : Option ItemState) → (has_in prefix o ≡ true → ⊥) → where_record prefix o ≡ None
    lacked None h = refl
    lacked (Some x) h = cond-false (has_record prefix x.formats) (Some x) None (false_from_ne_true (has_record prefix x.formats) h)

next_at : (prefix : List ℕ) (stamp : ℤ) (old new selection : List ItemState) → are_apart new ≡ true → IsChosen prefix (IsFromOn stamp) new selection → (q : List ℕ)
    → (find (is_named q) new ≡ find (is_named q) old) ⊎ IsNewer stamp (find (is_named q) old) (find (is_named q) new)
    → option_or (find (is_named q) (reverse selection)) (where_record prefix (find (is_named q) old)) ≡ where_record prefix (find (is_named q) new)
next_at prefix stamp old new selection apart chosen_from q since =
    elim (some_or_none (find (is_named q) (reverse selection))) [
      | inr some ↦ chosen prefix (IsFromOn stamp) new selection q some.0 (where_record prefix (find (is_named q) old)) apart chosen_from some.1
      | inl none ↦
          ap (λ o. option_or o (where_record prefix (find (is_named q) old))) none
          ∙ as_it_was prefix stamp (find (is_named q) old) (find (is_named q) new) since
          (λ y is has within. not_chosen prefix (IsFromOn stamp) new selection q y chosen_from none is has within)
    ]

pub held_next : (prefix : List ℕ) (stamp : ℤ) (old new selection copy : List ItemState) → are_apart new ≡ true → IsChosen prefix (IsFromOn stamp) new selection → IsSince stamp old new
    → IsHeld prefix old copy → IsHeld prefix new (caught_up copy selection)
unfolding item_named
held_next prefix stamp old new selection copy apart chosen_from since held q =
    find_caught q copy selection ∙ ap (option_or (find (is_named q) (reverse selection))) (held q) ∙ next_at prefix stamp old new selection apart chosen_from q (since q)

-- ---- all that it holds

pub listed_apart : (xs : List ItemState) → are_listed xs ≡ true → are_apart xs ≡ true
listed_apart [] h = refl
listed_apart (x ∷ xs) h =
    let parts = and_parts (list_all (is_listed_before x) xs) (are_listed xs) h in
    and_from (list_all (is_apart x) xs) (are_apart xs)
    (all-weaker (is_listed_before x) (is_apart x) (λ y before. not_from_false (is_named x.identifier y) (before-apart x y before)) xs parts.0)
    (listed_apart xs parts.1)

-- what is so of an item that is there
has_where : (prefix : List ℕ) (o : Option ItemState) (item : ItemState) → where_record prefix o ≡ Some item → (o ≡ Some item) × (has_record prefix item.formats ≡ true)
has_where prefix None item h = cc
has_where prefix (Some x) item h =
    elim (cases_Bool (has_record prefix x.formats)) [
      | inl has ↦
          let there : Some x ≡ Some item = sym (cond-true (has_record prefix x.formats) (Some x) None has) ∙ h in
          let is : item ≡ x = cc in (there, ap (λ (i : ItemState). has_record prefix i.formats) is ∙ has)
      | inr lacks ↦ let clash : None ≡ Some item = sym (cond-false (has_record prefix x.formats) (Some x) None lacks) ∙ h in cc
    ]

pub held_members : (prefix : List ℕ) (items copy : List ItemState) → are_apart items ≡ true → are_listed copy ≡ true → IsHeld prefix items copy
    → (item : ItemState) → Contains copy item ↔ (Contains items item × (has_record prefix item.formats ≡ true))
held_members prefix items copy apart listed held item =
    let q : List ℕ = item.identifier in
    let named : is_named q item ≡ true = eq_itself item.identifier in (
      (λ h.
          let here = named_in q copy item (listed_apart copy listed) h named in
          let there = has_where prefix (find (is_named q) items) item (sym (held q) ∙ here) in
          ((found_in (is_named q) items item there.0).0, there.1)),
      (λ h.
          let there = named_in q items item apart h.0 named in
          (found_in (is_named q) copy item (held q ∙ ap (where_record prefix) there ∙ cond-true (has_record prefix item.formats) (Some item) None h.1)).0),
    )
