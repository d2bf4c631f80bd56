-- Items that others lack, and others that they lack: as differences, and batches joined.
use Rattle.std.proofs.Common.{◌≡◌, ◌∙◌, ◌⊎◌, inl, inr, ◌+◌, ◌≤◌, ℕ, suc, zero, max, Bool, true, false, not, cond, List, [], ◌∷◌, ◌++◌, append-nil, length, map, take, Option, None, Some, is_none, is_some, refl, sym, ap, arith}
use Rattle.std.specs.Prelude.{filter, find}
use Rattle.std.specs.List.{flat_map, list_all}
use Rattle.std.specs.Str.{bytes_eq}
use Rattle.std.proofs.lemmas.Bool.{and_from, and_parts, both_ways, cases_Bool, cond-true, cond-false, cond_both, false_from_ne_true, not-true, not_from_false, not_from_true}
use Rattle.std.proofs.lemmas.List.Elements.{filter-append}
use Rattle.std.proofs.lemmas.Slice.Eq.{bytes_eq-Decides}
use Rattle.oai_item.specs.Item.{ItemState}
use Rattle.oai_item.specs.Items.{are_apart, is_apart, is_named, item_named, without}
use Rattle.oai_item.specs.Order.{are_in_order, precedes}
use Rattle.oai_item.proofs.Members.{Member, Member-filter}
use Rattle.oai_item.proofs.Named.{found_name, item_named-new, item_named-without, none_named-from}
use Rattle.oai_item.proofs.OrderLemmas.{apart-filter, in_order-filter}
use Rattle.oai_names.proofs.Lists.{all-weaker, filter_all, filter_none}
use Rattle.oai_holdings.specs.Changes.{with_new}
use Rattle.oai_holdings.specs.Differences.{AreDifferences, AreInOrderAndApart, ItemDifference, comes, goes, named_after, with_difference, with_differences}
use Rattle.oai_holdings.specs.Missing.{AreBatches, AreStepwise, IsBatch, differences_of, goes_on, is_after, has_equal, is_up_to, items_past, items_up_to, sort_key_of, missing_in}
use Rattle.oai_holdings.specs.declared.differences.MissingItems.{MissingItems}
use Rattle.oai_holdings.specs.declared.differences.OwnedKey.{OwnedKey}
use Rattle.oai_holdings.proofs.BatchLemmas.{after_later, from_first, from_later, from_ordered}
use Rattle.oai_holdings.proofs.DifferenceLemmas.{after_append, all_come, held_differences, named_differences, none_behind, none_stays, others_come, same_held}
use Rattle.oai_holdings.proofs.KeptLemmas.{length-placed, without-at_most}
use Rattle.oai_holdings.proofs.MissingLemmas.{member_of, of_member}

-- ---- what is found among the items that pass a test

-- what was found, if it passes
abbrev pub passing : (ItemState → Bool) → Option ItemState → Option ItemState
passing p None = None
passing p (Some x) = cond (p x) (Some x) None

named_passing : (p : ItemState → Bool) (q : List ℕ) (items : List ItemState) → are_apart items ≡ true → item_named q (filter p items) ≡ passing p (item_named q items)
unfolding item_named
named_passing p q [] apart = refl
named_passing p q (x ∷ items) apart =
    let parts = and_parts (list_all (is_apart x) items) (are_apart items) apart in
    let rest = named_passing p q items parts.1 in
    elim (cases_Bool (is_named q x)) [
      | inl named ↦
          cond_both (p x) (x ∷ filter p items) (filter p items) (λ (ys : List ItemState). find (is_named q) ys ≡ cond (p x) (Some x) None)
          (λ passes. cond-true (is_named q x) (Some x) (find (is_named q) (filter p items)) named ∙ sym (cond-true (p x) (Some x) None passes))
          (λ fails. rest ∙ ap (passing p) (none_behind q x items parts.0 named) ∙ sym (cond-false (p x) (Some x) None fails))
          ∙ ap (passing p) (sym (cond-true (is_named q x) (Some x) (find (is_named q) items) named))
      | inr other ↦
          cond_both (p x) (x ∷ filter p items) (filter p items) (λ (ys : List ItemState). find (is_named q) ys ≡ passing p (find (is_named q) items))
          (λ _. cond-false (is_named q x) (Some x) (find (is_named q) (filter p items)) other ∙ rest)
          (λ _. rest)
          ∙ ap (passing p) (sym (cond-false (is_named q x) (Some x) (find (is_named q) items) other))
    ]

-- the item with an identifier is one of the items, and is the one of them that has it
found_one : (q : List ℕ) (x : ItemState) (items : List ItemState) → item_named q items ≡ Some x → has_equal items x ≡ true
unfolding item_named
found_one q x items found = of_member x items (member items found)
  where
    member : (ys : List ItemState) → item_named q ys ≡ Some x → Member x ys
    member [] h = cc
    member (y ∷ ys) h =
        elim (cases_Bool (is_named q y)) [
          | inl named ↦ inl (let same : Some x ≡ Some y = sym h ∙ cond-true (is_named q y) (Some y) (find (is_named q) ys) named in cc)
          | inr other ↦ inr (member ys (sym (cond-false (is_named q y) (Some y) (find (is_named q) ys) other) ∙ h))
        ]

one_found : (q : List ℕ) (x : ItemState) (items : List ItemState) → are_apart items ≡ true → has_equal items x ≡ true → is_named q x ≡ true → item_named q items ≡ Some x
unfolding item_named
one_found q x items apart one named = among items apart (member_of x items one)
  where
    among : (ys : List ItemState) → are_apart ys ≡ true → Member x ys → item_named q ys ≡ Some x
    among [] apart h = absurd h
    among (y ∷ ys) apart h =
        let parts = and_parts (list_all (is_apart y) ys) (are_apart ys) apart in
        elim h [
          | inl same ↦ cond-true (is_named q y) (Some y) (find (is_named q) ys) (ap (is_named q) (sym same) ∙ named) ∙ ap Some (sym same)
          | inr later ↦
              elim (cases_Bool (is_named q y)) [
                | inl first ↦ absurd (let none = none_behind q y ys parts.0 first in let found = among ys parts.1 later in cc)
                | inr other ↦ cond-false (is_named q y) (Some y) (find (is_named q) ys) other ∙ among ys parts.1 later
              ]
        ]

named_so : (q : List ℕ) (x : ItemState) (items : List ItemState) → item_named q items ≡ Some x → is_named q x ≡ true
named_so q x items found = (bytes_eq-Decides x.identifier q).1 (found_name q items x found)

-- what both have is the same, from either side
shared_at : (q : List ℕ) (items others : List ItemState) → are_apart items ≡ true → are_apart others ≡ true → (i o : Option ItemState) → item_named q items ≡ i → item_named q others ≡ o
    → passing (has_equal others) i ≡ passing (has_equal items) o
shared_at q items others apart others_apart None None is is_too = refl
shared_at q items others apart others_apart None (Some y) is is_too =
    sym (cond-false (has_equal items y) (Some y) None (false_from_ne_true (has_equal items y) (λ one. let found = one_found q y items apart one (named_so q y others is_too) in cc)))
shared_at q items others apart others_apart (Some x) None is is_too =
    cond-false (has_equal others x) (Some x) None (false_from_ne_true (has_equal others x) (λ one. let found = one_found q x others others_apart one (named_so q x items is) in cc))
shared_at q items others apart others_apart (Some x) (Some y) is is_too =
    elim (cases_Bool (has_equal others x)) [
      | inl one ↦
          let same : Some x ≡ Some y = sym (one_found q x others others_apart one (named_so q x items is)) ∙ is_too in
          let found : item_named q items ≡ Some y = is ∙ same in
          cond-true (has_equal others x) (Some x) None one ∙ same ∙ sym (cond-true (has_equal items y) (Some y) None (found_one q y items found))
      | inr none ↦
          cond-false (has_equal others x) (Some x) None none
          ∙ sym (cond-false (has_equal items y) (Some y) None (false_from_ne_true (has_equal items y) (λ one.
          let same : Some x ≡ Some y = sym is ∙ one_found q y items apart one (named_so q y others is_too) in
          let found : item_named q others ≡ Some x = is_too ∙ sym same in
          both_ways (has_equal others x) none (found_one q x others found))))
    ]

-- ---- the items that the others lack go

goes_named : (q : List ℕ) (gone : List ItemState) (found : Option ItemState)
    → named_after q (map (λ (item : ItemState). goes item.identifier) gone) found ≡ cond (is_some (item_named q gone)) None found
unfolding item_named
goes_named q [] found = refl
goes_named q (x ∷ gone) found =
    elim (cases_Bool (is_named q x)) [
      | inl named ↦
          ap (named_after q (map (λ (item : ItemState). goes item.identifier) gone)) (cond-true (is_named q x) None found named)
          ∙ none_stays q gone
          ∙ ap (λ (o : Option ItemState). cond (is_some o) None found) (sym (cond-true (is_named q x) (Some x) (find (is_named q) gone) named))
      | inr other ↦
          ap (named_after q (map (λ (item : ItemState). goes item.identifier) gone)) (cond-false (is_named q x) None found other)
          ∙ goes_named q gone found
          ∙ ap (λ (o : Option ItemState). cond (is_some o) None found) (sym (cond-false (is_named q x) (Some x) (find (is_named q) gone) other))
    ]

left_passing : (p : ItemState → Bool) (found : Option ItemState) → cond (is_some (passing (λ z. not (p z)) found)) None found ≡ passing p found
left_passing p None = refl
left_passing p (Some x) = by_test (p x)
  where
    by_test : (b : Bool) → cond (is_some (cond (not b) (Some x) None)) None (Some x) ≡ cond b (Some x) None
    by_test true = refl
    by_test false = refl

-- what is left has what both have
left_named : (q : List ℕ) (items others : List ItemState) → are_apart items ≡ true
    → named_after q (map (λ (item : ItemState). goes item.identifier) (missing_in others items)) (item_named q items) ≡ passing (has_equal others) (item_named q items)
unfolding missing_in
left_named q items others apart =
    goes_named q (missing_in others items) (item_named q items)
    ∙ ap (λ (o : Option ItemState). cond (is_some o) None (item_named q items)) (named_passing (λ z. not (has_equal others z)) q items apart)
    ∙ left_passing (has_equal others) (item_named q items)

-- ---- and the others that they lack come

come_to : (q : List ℕ) (p : ItemState → Bool) (coming : List ItemState) (found : Option ItemState) → are_apart coming ≡ true → item_named q coming ≡ passing (λ z. not (p z)) found
    → named_after q (map comes coming) (passing p found) ≡ found
come_to q p coming None apart is = all_come q coming apart ∙ is
come_to q p coming (Some y) apart is =
    elim (cases_Bool (p y)) [
      | inl passes ↦
          ap (named_after q (map comes coming)) (cond-true (p y) (Some y) None passes)
          ∙ others_come q coming (Some y) (none_named-from q coming (is ∙ cond-false (not (p y)) (Some y) None (not_from_true (p y) passes)))
      | inr fails ↦
          ap (named_after q (map comes coming)) (cond-false (p y) (Some y) None fails)
          ∙ all_come q coming apart ∙ is ∙ cond-true (not (p y)) (Some y) None (not_from_false (p y) fails)
    ]

pub missing_lead : (items others : List ItemState) → AreInOrderAndApart items → AreInOrderAndApart others → AreDifferences items (differences_of items others) others
unfolding missing_in
missing_lead items others held are q =
    after_append q (map (λ (item : ItemState). goes item.identifier) (missing_in others items)) (map comes (missing_in items others)) (item_named q items)
    ∙ ap (named_after q (map comes (missing_in items others))) (left_named q items others held.apart ∙ shared_at q items others held.apart are.apart (item_named q items) (item_named q others) refl refl)
    ∙ come_to q (has_equal items) (missing_in items others) (item_named q others) (apart-filter (λ z. not (has_equal items z)) others are.apart) (named_passing (λ z. not (has_equal items z)) q others are.apart)

-- ---- each that goes is there, and none of those that come is

-- an item with the identifier of that one is there
abbrev is_there : List ItemState → ItemState → Bool
is_there items x = is_some (item_named x.identifier items)

abbrev is_free : List ItemState → ItemState → Bool
is_free items x = is_none (item_named x.identifier items)

-- a second item of another identifier
other_name : (x y : ItemState) → is_apart x y ≡ true → bytes_eq x.identifier y.identifier ≡ false
other_name x y apart =
    false_from_ne_true (bytes_eq x.identifier y.identifier)
    (λ same. both_ways (bytes_eq y.identifier x.identifier) (not-true (bytes_eq y.identifier x.identifier) apart) ((bytes_eq-Decides y.identifier x.identifier).1 (sym ((bytes_eq-Decides x.identifier y.identifier).0 same))))

-- the others are there without one of another identifier
there_without : (x : ItemState) (items gone : List ItemState) → list_all (is_apart x) gone ≡ true → list_all (is_there items) gone ≡ true
    → list_all (is_there (without x.identifier items)) gone ≡ true
there_without x items [] apart there = refl
there_without x items (y ∷ gone) apart there =
    let others = and_parts (is_apart x y) (list_all (is_apart x) gone) apart in
    let parts = and_parts (is_there items y) (list_all (is_there items) gone) there in
    let other : bytes_eq x.identifier y.identifier ≡ false = other_name x y others.0 in
    and_from (is_there (without x.identifier items) y) (list_all (is_there (without x.identifier items)) gone)
    (ap is_some (item_named-without x.identifier y.identifier items ∙ cond-false (bytes_eq x.identifier y.identifier) None (item_named y.identifier items) other) ∙ parts.0)
    (there_without x items gone others.1 parts.1)

-- and so are free those of other identifiers with a new one
free_with : (x : ItemState) (items coming : List ItemState) → list_all (is_apart x) coming ≡ true → list_all (is_free items) coming ≡ true
    → list_all (is_free (with_new x items)) coming ≡ true
free_with x items [] apart free = refl
free_with x items (y ∷ coming) apart free =
    let others = and_parts (is_apart x y) (list_all (is_apart x) coming) apart in
    let parts = and_parts (is_free items y) (list_all (is_free items) coming) free in
    let other : is_named y.identifier x ≡ false = other_name x y others.0 in
    and_from (is_free (with_new x items) y) (list_all (is_free (with_new x items)) coming)
    (ap is_none (item_named-new x y.identifier items ∙ cond-false (is_named y.identifier x) (Some x) (item_named y.identifier items) other) ∙ parts.0)
    (free_with x items coming others.1 parts.1)

come_stepwise : (items coming : List ItemState) → are_apart coming ≡ true → list_all (is_free items) coming ≡ true → AreStepwise items (map comes coming)
come_stepwise items [] apart free = tt
come_stepwise items (x ∷ coming) apart free =
    let others = and_parts (list_all (is_apart x) coming) (are_apart coming) apart in
    let parts = and_parts (is_free items x) (list_all (is_free items) coming) free in
    (parts.0, come_stepwise (with_new x items) coming others.1 (free_with x items coming others.0 parts.1))

go_stepwise : (items gone : List ItemState) (more : List ItemDifference) → are_apart gone ≡ true → list_all (is_there items) gone ≡ true
    → AreStepwise (with_differences items (map (λ (item : ItemState). goes item.identifier) gone)) more
    → AreStepwise items (map (λ (item : ItemState). goes item.identifier) gone ++ more)
go_stepwise items [] more apart there later = later
go_stepwise items (x ∷ gone) more apart there later =
    let others = and_parts (list_all (is_apart x) gone) (are_apart gone) apart in
    let parts = and_parts (is_there items x) (list_all (is_there items) gone) there in
    (parts.0, go_stepwise (without x.identifier items) gone more others.1 (there_without x items gone others.0 parts.1) later)

itself_named : (x : ItemState) → is_named x.identifier x ≡ true
itself_named x = (bytes_eq-Decides x.identifier x.identifier).1 refl

-- what holds of each member holds of all
all_members : (p : ItemState → Bool) (items : List ItemState) → ((x : ItemState) → Member x items → p x ≡ true) → list_all p items ≡ true
all_members p [] each = refl
all_members p (x ∷ items) each = and_from (p x) (list_all p items) (each x (inl refl)) (all_members p items (λ y later. each y (inr later)))

pub missing_stepwise : (items others : List ItemState) → AreInOrderAndApart items → AreInOrderAndApart others → AreStepwise items (differences_of items others)
unfolding missing_in
missing_stepwise items others held are =
    let gone : List ItemState = filter (λ z. not (has_equal others z)) items in
    let coming : List ItemState = filter (λ z. not (has_equal items z)) others in
    let left : List ItemState = with_differences items (map (λ (item : ItemState). goes item.identifier) gone) in
    let there : list_all (is_there items) gone ≡ true =
    all_members (is_there items) gone
    (λ x member.
    let whole = ((Member-filter (λ z. not (has_equal others z)) items x).0 member).0 in
    ap is_some (one_found x.identifier x items held.apart (of_member x items whole) (itself_named x))) in
    let free : list_all (is_free left) coming ≡ true =
    all_members (is_free left) coming
    (λ y member.
    let parts = (Member-filter (λ z. not (has_equal items z)) others y).0 member in
    let found : item_named y.identifier others ≡ Some y = one_found y.identifier y others are.apart (of_member y others parts.0) (itself_named y) in
    let none : has_equal items y ≡ false = not-true (has_equal items y) parts.1 in
    ap is_none (
    named_differences y.identifier items (map (λ (item : ItemState). goes item.identifier) gone)
    ∙ left_named y.identifier items others held.apart
    ∙ shared_at y.identifier items others held.apart are.apart (item_named y.identifier items) (item_named y.identifier others) refl refl
    ∙ ap (passing (has_equal items)) found
    ∙ cond-false (has_equal items y) (Some y) None none
    )) in
    go_stepwise items gone (map comes coming) (apart-filter (λ z. not (has_equal others z)) items held.apart) there
    (come_stepwise left coming (apart-filter (λ z. not (has_equal items z)) others are.apart) free)

-- ---- never more than either has

all_left : (items others : List ItemState) → AreInOrderAndApart items → AreInOrderAndApart others
    → with_differences items (map (λ (item : ItemState). goes item.identifier) (missing_in others items)) ≡ filter (has_equal items) others
all_left items others held are =
    let gone : List ItemDifference = map (λ (item : ItemState). goes item.identifier) (missing_in others items) in
    same_held (with_differences items gone) (filter (has_equal items) others) (held_differences items gone held)
    (record { ordered = in_order-filter (has_equal items) others are.ordered; apart = apart-filter (has_equal items) others are.apart })
    (λ q.
    named_differences q items gone ∙ left_named q items others held.apart
    ∙ shared_at q items others held.apart are.apart (item_named q items) (item_named q others) refl refl
    ∙ sym (named_passing (has_equal items) q others are.apart))

goes_fewer : (items gone : List ItemState) (n : ℕ) → length (with_differences items (take n (map (λ (item : ItemState). goes item.identifier) gone))) ≤ length items
goes_fewer items [] zero = omega arith
goes_fewer items [] (suc n) = omega arith
goes_fewer items (x ∷ gone) zero = omega arith
goes_fewer items (x ∷ gone) (suc n) = omega (arith, goes_fewer (without x.identifier items) gone n, without-at_most x.identifier items)

comes_more : (items coming : List ItemState) (n : ℕ) → length (with_differences items (take n (map comes coming))) ≤ length items + length coming
comes_more items [] zero = omega arith
comes_more items [] (suc n) = omega arith
comes_more items (x ∷ coming) zero = omega arith
comes_more items (x ∷ coming) (suc n) =
    omega (arith, comes_more (with_new x items) coming n, length-placed x (without x.identifier items), without-at_most x.identifier items)

after_both : (items : List ItemState) (some others : List ItemDifference) → with_differences items (some ++ others) ≡ with_differences (with_differences items some) others
after_both items [] others = refl
after_both items (difference ∷ some) others = after_both (with_difference items difference) some others

-- what passes, and what does not, are all
both_lengths : (p : ItemState → Bool) (items : List ItemState) → length (filter p items) + length (filter (λ z. not (p z)) items) ≡ length items
both_lengths p [] = refl
both_lengths p (x ∷ items) = by_test (p x) (both_lengths p items)
  where
    kept : List ItemState
    kept = filter p items

    others : List ItemState
    others = filter (λ z. not (p z)) items

    by_test : (b : Bool) → length kept + length others ≡ length items → length (cond b (x ∷ kept) kept) + length (cond (not b) (x ∷ others) others) ≡ length (x ∷ items)
    by_test true h = omega (arith, h)
    by_test false h = omega (arith, h)

missing_length : (items others : List ItemState) → length (filter (has_equal items) others) + length (missing_in items others) ≡ length others
unfolding missing_in
missing_length items others = both_lengths (has_equal items) others

-- a part of differences is one of the first, or all of the first and one of the others
part_of_both : (n : ℕ) (some others : List ItemDifference)
    → (take n (some ++ others) ≡ take n some) ⊎ ((m : ℕ) × (take n (some ++ others) ≡ some ++ take m others))
part_of_both zero some others = inl refl
part_of_both (suc n) [] others = inr (suc n, refl)
part_of_both (suc n) (d ∷ some) others =
    elim (part_of_both n some others) [
      | inl part ↦ inl (ap (λ (ds : List ItemDifference). d ∷ ds) part)
      | inr all ↦ inr (all.0, ap (λ (ds : List ItemDifference). d ∷ ds) all.1)
    ]

pub never_more : (items others : List ItemState) (n : ℕ) → AreInOrderAndApart items → AreInOrderAndApart others
    → length (with_differences items (take n (differences_of items others))) ≤ max (length items) (length others)
never_more items others n held are =
    let gone : List ItemDifference = map (λ (item : ItemState). goes item.identifier) (missing_in others items) in
    let coming : List ItemDifference = map comes (missing_in items others) in
    elim (part_of_both n gone coming) [
      | inl some ↦
          let fewer = goes_fewer items (missing_in others items) n in
          let same = ap (λ (ds : List ItemDifference). length (with_differences items ds)) some in
          omega (arith, fewer, same)
      | inr all ↦
          let m : ℕ = all.0 in
          let left : with_differences items gone ≡ filter (has_equal items) others = all_left items others held are in
          let same = ap (λ (ds : List ItemDifference). length (with_differences items ds)) all.1 ∙ ap length (after_both items gone (take m coming) ∙ ap (λ (xs : List ItemState). with_differences xs (take m coming)) left) in
          let more = comes_more (filter (has_equal items) others) (missing_in items others) m in
          omega (arith, same, more, missing_length items others)
    ]

-- ---- batches joined

not_not : (b : Bool) → b ≡ true → not (not b) ≡ true
not_not b h = ap (λ c. not (not c)) h

-- items in order are those up to a key and those after it
cut_at : (key : OwnedKey) (items : List ItemState) → are_in_order items ≡ true → items ≡ items_up_to (Some key) items ++ items_past (Some key) items
unfolding items_up_to items_past
cut_at key [] ordered = refl
cut_at key (x ∷ items) ordered =
    let parts = and_parts (list_all (precedes x) items) (are_in_order items) ordered in
    let up_to : List ItemState = filter (is_up_to (Some key)) items in
    let after : List ItemState = filter (λ (z : ItemState). is_after (sort_key_of z) (Some key)) items in
    elim (cases_Bool (is_after (sort_key_of x) (Some key))) [
      | inl behind ↦
          let all : list_all (λ (z : ItemState). is_after (sort_key_of z) (Some key)) items ≡ true =
          all-weaker (precedes x) (λ (z : ItemState). is_after (sort_key_of z) (Some key)) (λ z later. after_later key x z behind later) items parts.0 in
          let none : list_all (λ z. not (is_up_to (Some key) z)) items ≡ true =
          all-weaker (λ (z : ItemState). is_after (sort_key_of z) (Some key)) (λ z. not (is_up_to (Some key) z)) (λ z h. not_not (is_after (sort_key_of z) (Some key)) h) items all in
          sym (
          ap (λ (xs : List ItemState). xs ++ cond (is_after (sort_key_of x) (Some key)) (x ∷ after) after)
          (cond-false (is_up_to (Some key) x) (x ∷ up_to) up_to (not_from_true (is_after (sort_key_of x) (Some key)) behind) ∙ filter_none (is_up_to (Some key)) items none)
          ∙ cond-true (is_after (sort_key_of x) (Some key)) (x ∷ after) after behind
          ∙ ap (λ (xs : List ItemState). x ∷ xs) (filter_all (λ (z : ItemState). is_after (sort_key_of z) (Some key)) items all)
          )
      | inr before ↦
          ap (λ (xs : List ItemState). x ∷ xs) (cut_at key items parts.1)
          ∙ sym (
          ap (λ (xs : List ItemState). xs ++ cond (is_after (sort_key_of x) (Some key)) (x ∷ after) after)
          (cond-true (is_up_to (Some key) x) (x ∷ up_to) up_to (not_from_false (is_after (sort_key_of x) (Some key)) before))
          ∙ ap (λ (xs : List ItemState). (x ∷ up_to) ++ xs) (cond-false (is_after (sort_key_of x) (Some key)) (x ∷ after) after before)
          )
    ]

missing_both : (others some more : List ItemState) → missing_in others (some ++ more) ≡ missing_in others some ++ missing_in others more
unfolding missing_in
missing_both others some more = filter-append (λ z. not (has_equal others z)) some more

up_to_end : (items : List ItemState) → items_up_to None items ≡ items
unfolding items_up_to
up_to_end [] = refl
up_to_end (x ∷ items) = ap (λ (xs : List ItemState). x ∷ xs) (up_to_end items)

pub last_batch : (items others : List ItemState) (behind : Option OwnedKey) (batch : MissingItems) → IsBatch items others behind batch → batch.next ≡ None
    → missing_in others (items_past behind items) ≡ batch.items
last_batch items others behind batch is last =
    sym (is ∙ ap (λ (next : Option OwnedKey). missing_in others (items_up_to next (items_past behind items))) last ∙ ap (missing_in others) (up_to_end (items_past behind items)))

pub next_batch : (items others : List ItemState) (behind : Option OwnedKey) (batch : MissingItems) → are_in_order items ≡ true → IsBatch items others behind batch
    → goes_on behind batch.next ≡ true → missing_in others (items_past behind items) ≡ batch.items ++ missing_in others (items_past batch.next items)
next_batch items others behind batch ordered is further = by_next batch.next is further
  where
    by_next : (next : Option OwnedKey) → batch.items ≡ missing_in others (items_up_to next (items_past behind items)) → goes_on behind next ≡ true
        → missing_in others (items_past behind items) ≡ batch.items ++ missing_in others (items_past next items)
    by_next None is further = cc
    by_next (Some key) is further =
        ap (missing_in others) (cut_at key (items_past behind items) (from_ordered behind items ordered))
        ∙ missing_both others (items_up_to (Some key) (items_past behind items)) (items_past (Some key) (items_past behind items))
        ∙ ap (λ (xs : List ItemState). missing_in others (items_up_to (Some key) (items_past behind items)) ++ missing_in others xs) (from_later behind key items further)
        ∙ ap (λ (xs : List ItemState). xs ++ missing_in others (items_past (Some key) items)) (sym is)

joined_from : (items others : List ItemState) (behind : Option OwnedKey) (batches : List MissingItems) → are_in_order items ≡ true → AreBatches items others behind batches
    → flat_map (λ (batch : MissingItems). batch.items) batches ≡ missing_in others (items_past behind items)
joined_from items others behind [] ordered are = absurd are
joined_from items others behind (batch ∷ []) ordered are = append-nil batch.items ∙ sym (last_batch items others behind batch are.0 are.1)
joined_from items others behind (batch ∷ more ∷ batches) ordered are =
    ap (λ (xs : List ItemState). batch.items ++ xs) (joined_from items others batch.next (more ∷ batches) ordered are.2)
    ∙ sym (next_batch items others behind batch ordered are.0 are.1)

pub batches_joined : (items others : List ItemState) (batches : List MissingItems) → are_in_order items ≡ true → AreBatches items others None batches
    → flat_map (λ (batch : MissingItems). batch.items) batches ≡ missing_in others items
batches_joined items others batches ordered are = joined_from items others None batches ordered are ∙ ap (missing_in others) (from_first items)
