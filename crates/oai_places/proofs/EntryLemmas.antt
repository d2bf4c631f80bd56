-- Entries one after the other: how many bytes they have, where each ends, and what stands between two places of them.
use Rattle.std.proofs.Common.{◌≡◌, ◌∙◌, ◌+◌, ◌-◌, ◌<◌, ◌≤◌, ℕ, suc, zero, Result, Ok, Err, Some, IfOk, HoldsAt, List, [], ◌∷◌, ◌++◌, length, take, drop, get_or, pos, refl, sym, ap, subst, arith, add-one, length-append}
use Rattle.std.specs.Prelude.{map}
use Rattle.std.proofs.Math.Nat.{min-le_left}
use Rattle.std.proofs.lemmas.Grind.{flat_map-append}
use Rattle.std.proofs.lemmas.List.{append-nil, drop-drop, drop-take, drop_at, length-take, length-take-le, take-append-drop, take-take, take_all, take_at, take_more}
use Rattle.std.proofs.lemmas.Option.{same_Some}
use Rattle.std.proofs.lemmas.Slice.{between_is}
use Rattle.std.specs.declared.alloc.AllocError.{AllocError}
use Rattle.oai_item.specs.Decoding.{item_in}
use Rattle.oai_item.specs.Encoding.{Spells, encoded}
use Rattle.oai_item.specs.Item.{ItemState}
use Rattle.oai_item.proofs.Around.{only_place}
use Rattle.oai_places.specs.Entries.{AreEntries, ends_from, items_with}
use Rattle.oai_places.specs.Pages.{AreStorable, between, entries_of, entry_of, items_of_entries, size_of}
use Rattle.oai_places.proofs.PageLemmas.{behind_number, entries_of-cons, entries_of-nil, entry_parts, items_back, length-entry, size_of-cons, size_of-nil}

-- ---- how many bytes

pub entries_of-append : (a b : List ItemState) → entries_of (a ++ b) ≡ entries_of a ++ entries_of b
unfolding entries_of
entries_of-append a b = flat_map-append entry_of a b

pub size_of-append : (a b : List ItemState) → size_of (a ++ b) ≡ size_of a + size_of b
unfolding size_of
size_of-append a b = ap length (entries_of-append a b) ∙ length-append (entries_of a) (entries_of b)

pub size_is : (bytes : List ℕ) (items : List ItemState) → bytes ≡ entries_of items → length bytes ≡ size_of items
unfolding size_of
size_is bytes items e = ap length e

pub size_of-one : (item : ItemState) → size_of (item ∷ []) ≡ 4 + length (encoded item)
size_of-one item = omega (arith, size_of-cons item [], size_of-nil, length-entry item)

pub size_of-more : (items : List ItemState) (at : ℕ) (d : ItemState) → at < length items
    → size_of (take (at + 1) items) ≡ size_of (take at items) + (4 + length (encoded (get_or items at d)))
size_of-more items at d within =
    let item : ItemState = get_or items at d in
    omega (arith, ap size_of (take_more items at d within), size_of-append (take at items) (item ∷ []), size_of-one item)

pub size_of-cut : (items : List ItemState) (at : ℕ) → size_of (take at items) + size_of (drop at items) ≡ size_of items
size_of-cut items at = sym (size_of-append (take at items) (drop at items)) ∙ ap size_of (take-append-drop at items)

pub size_of-between : (items : List ItemState) (from to : ℕ) → from ≤ to → size_of (take from items) + size_of (between from to items) ≡ size_of (take to items)
unfolding between
size_of-between items from to order =
    ap (λ front. size_of front + size_of (drop from (take to items))) (sym (take-take from to items order)) ∙ size_of-cut (take to items) from

-- ---- each item has a spelling

pub storable-append : (a b : List ItemState) → AreStorable a → AreStorable b → AreStorable (a ++ b)
storable-append [] b h g = g
storable-append (item ∷ a) b h g = (h.0, storable-append a b h.1 g)

storable-parts : (a b : List ItemState) → AreStorable (a ++ b) → AreStorable a × AreStorable b
storable-parts [] b h = (tt, h)
storable-parts (item ∷ a) b h = let others = storable-parts a b h.1 in ((h.0, others.0), others.1)

storable-cut : (at : ℕ) (items : List ItemState) → AreStorable items → AreStorable (take at items) × AreStorable (drop at items)
storable-cut at items h = storable-parts (take at items) (drop at items) (subst (λ (xs : List ItemState). AreStorable xs) (sym (take-append-drop at items)) h)

pub storable-take : (at : ℕ) (items : List ItemState) → AreStorable items → AreStorable (take at items)
storable-take at items h = (storable-cut at items h).0

pub storable-drop : (at : ℕ) (items : List ItemState) → AreStorable items → AreStorable (drop at items)
storable-drop at items h = (storable-cut at items h).1

pub storable-between : (from to : ℕ) (items : List ItemState) → AreStorable items → AreStorable (between from to items)
unfolding between
storable-between from to items h = storable-drop from (take to items) (storable-take to items h)

pub storable_at : (items : List ItemState) (at : ℕ) (d : ItemState) → AreStorable items → at < length items → Spells (encoded (get_or items at d)) (get_or items at d)
storable_at [] at d h within = absurd (omega arith)
storable_at (item ∷ items) zero d h within = h.0
storable_at (item ∷ items) (suc at) d h within = storable_at items at d h.1 (omega arith)

-- ---- where each ends

pub length-ends_from : (start : ℕ) (items : List ItemState) → length (ends_from start items) ≡ length items
length-ends_from start [] = refl
length-ends_from start (item ∷ items) = ap suc (length-ends_from (start + length (entry_of item)) items)

pub ends_from-append : (start : ℕ) (a b : List ItemState) → ends_from start (a ++ b) ≡ ends_from start a ++ ends_from (start + size_of a) b
ends_from-append start [] b = let e : start ≡ start + size_of [] = omega (arith, size_of-nil) in ap (λ n. ends_from n b) e
ends_from-append start (item ∷ a) b =
    let end : ℕ = start + length (entry_of item) in
    let e : end + size_of a ≡ start + size_of (item ∷ a) = omega (arith, size_of-cons item a) in
    ap (λ ends. end ∷ ends) (ends_from-append end a b ∙ ap (λ n. ends_from end a ++ ends_from n b) e)

end_after : (start : ℕ) (items : List ItemState) (at : ℕ) → at < length items → get_or (ends_from start items) at 0 ≡ start + size_of (take (suc at) items)
end_after start [] at within = absurd (omega arith)
end_after start (item ∷ items) zero within =
    let one : size_of (take (suc zero) (item ∷ items)) ≡ length (entry_of item) + size_of [] = size_of-cons item [] in
    let here : get_or (ends_from start (item ∷ items)) zero 0 ≡ start + length (entry_of item) = refl in
    omega (arith, here, one, size_of-nil)
end_after start (item ∷ items) (suc at) within =
    let more : size_of (take (suc (suc at)) (item ∷ items)) ≡ length (entry_of item) + size_of (take (suc at) items) = size_of-cons item (take (suc at) items) in
    let there : get_or (ends_from start (item ∷ items)) (suc at) 0 ≡ start + length (entry_of item) + size_of (take (suc at) items) =
    end_after (start + length (entry_of item)) items at (omega arith)
    in
    omega (arith, there, more)

pub end_at : (ends : List ℕ) (items : List ItemState) (at : ℕ) → ends ≡ ends_from 0 items → at < length items → get_or ends at 0 ≡ size_of (take (at + 1) items)
end_at ends items at e within =
    let one : size_of (take (at + 1) items) ≡ size_of (take (suc at) items) = ap (λ n. size_of (take n items)) (add-one at) in
    omega (arith, ap (λ (xs : List ℕ). get_or xs at 0) e, end_after 0 items at within, one)

-- each end behind a number is moved with it
pub ends_moved : (from to start : ℕ) (items : List ItemState) → from ≤ start → map (λ end. end - from + to) (ends_from start items) ≡ ends_from (start - from + to) items
ends_moved from to start [] above = refl
ends_moved from to start (item ∷ items) above =
    let end : ℕ = start + length (entry_of item) in
    let e : end - from + to ≡ start - from + to + length (entry_of item) = omega arith in
    let others : map (λ end. end - from + to) (ends_from end items) ≡ ends_from (start - from + to + length (entry_of item)) items =
    ends_moved from to end items (omega arith) ∙ ap (λ n. ends_from n items) e
    in
    λ k. e k ∷ others k

-- each end is within
pub ends_within : (start : ℕ) (items : List ItemState) (at : ℕ) → at < length items → (start ≤ get_or (ends_from start items) at 0) × (get_or (ends_from start items) at 0 ≤ start + size_of items)
ends_within start items at within = (
  omega (arith, end_after start items at within),
  omega (arith, end_after start items at within, size_of-cut items (suc at)),
)

-- ---- the bytes of some

pub entries_cut : (at : ℕ) (items : List ItemState) → entries_of items ≡ entries_of (take at items) ++ entries_of (drop at items)
entries_cut at items = ap entries_of (sym (take-append-drop at items)) ∙ entries_of-append (take at items) (drop at items)

pub take_entries : (at : ℕ) (items : List ItemState) → take (size_of (take at items)) (entries_of items) ≡ entries_of (take at items)
unfolding size_of
take_entries at items =
    ap (take (length (entries_of (take at items)))) (entries_cut at items) ∙ take_at (entries_of (take at items)) (entries_of (drop at items)) (length (entries_of (take at items))) refl

pub drop_entries : (at : ℕ) (items : List ItemState) → drop (size_of (take at items)) (entries_of items) ≡ entries_of (drop at items)
unfolding size_of
drop_entries at items =
    ap (drop (length (entries_of (take at items)))) (entries_cut at items) ∙ drop_at (entries_of (take at items)) (entries_of (drop at items)) (length (entries_of (take at items))) refl

pub entries_between : (from to : ℕ) (items : List ItemState) → from ≤ to → drop (size_of (take from items)) (take (size_of (take to items)) (entries_of items)) ≡ entries_of (between from to items)
unfolding between
entries_between from to items order =
    ap (drop (size_of (take from items))) (take_entries to items)
    ∙ ap (λ (front : List ItemState). drop (size_of front) (entries_of (take to items))) (sym (take-take from to items order))
    ∙ drop_entries from (take to items)

-- those from one place up to another, as a part of the bytes
pub entries_part : (bytes : List ℕ) (items : List ItemState) (from to start end : ℕ) → bytes ≡ entries_of items → from ≤ to → start ≡ size_of (take from items) → end ≡ size_of (take to items)
    → take (end - start) (drop start bytes) ≡ entries_of (between from to items)
entries_part bytes items from to start end e order starts ends = between_is bytes start end ∙ (λ k. drop (starts k) (take (ends k) (e k))) ∙ entries_between from to items order

pub between_front : (to : ℕ) (items : List ItemState) → between 0 to items ≡ take to items
unfolding between
between_front to items = refl

pub between_back : (from to : ℕ) (items : List ItemState) → to ≡ length items → between from to items ≡ drop from items
unfolding between
between_back from to items e = ap (drop from) (take_all to items (omega (arith, e)))

pub entry_long : (entry : List ℕ) (items : List ItemState) (at : ℕ) → entry ≡ entries_of (between at (at + 1) items) → at < length items → 4 ≤ length entry
entry_long entry items at e within =
    let d : ItemState = only_place (pos 0) [] in
    omega (arith, size_is entry (between at (at + 1) items) e, size_of-between items at (at + 1) (omega arith), size_of-more items at d within)

-- the spelling of an item stands behind its length
pub spelling_at : (entry : List ℕ) (items : List ItemState) (at : ℕ) (d : ItemState) → entry ≡ entries_of (between at (at + 1) items) → AreStorable items → at < length items
    → Spells (drop 4 entry) (get_or items at d)
unfolding between
spelling_at entry items at d e storable within =
    let item : ItemState = get_or items at d in
    let one : between at (at + 1) items ≡ item ∷ [] =
    ap (drop at) (take_more items at d within) ∙ drop_at (take at items) (item ∷ []) at (length-take-le at items (omega (arith, within)))
    in
    let text : drop 4 entry ≡ encoded item =
    ap (drop 4) (e ∙ ap entries_of one ∙ entries_of-cons item [] ∙ entry_parts item (entries_of []))
    ∙ behind_number (length (encoded item)) (encoded item ++ entries_of []) ∙ ap (λ bs. encoded item ++ bs) entries_of-nil ∙ append-nil (encoded item)
    in
    subst (λ (bs : List ℕ). Spells bs item) (sym text) (storable_at items at d storable within)

-- ---- entries that are made

pub are_entries : (bytes ends : List ℕ) (items : List ItemState) → bytes ≡ entries_of items → ends ≡ ends_from 0 items → AreStorable items
    → (items_with bytes ends ≡ items) × AreEntries bytes ends
are_entries bytes ends items b e s =
    let count : length ends ≡ length items = ap length e ∙ length-ends_from 0 items in
    let all : bytes ≡ entries_of items ++ [] = b ∙ sym (append-nil (entries_of items)) in
    let is : items_with bytes ends ≡ items = (λ k. items_of_entries (count k) (all k)) ∙ items_back items [] s in (
      is,
      record {
        spelling = b ∙ ap entries_of (sym is);
        ending = e ∙ ap (ends_from 0) (sym is);
        storable = subst (λ (xs : List ItemState). AreStorable xs) (sym is) s;
      },
    )

-- ---- the fields of entries

-- what the fields of entries are, whose items these are
pub record AreFields (bytes ends : List ℕ) (items : List ItemState) : Type 0 where
  pub spelling : bytes ≡ entries_of items
  pub ending : ends ≡ ends_from 0 items
  pub storable : AreStorable items

pub fields_are : (bytes ends : List ℕ) (items : List ItemState) → items_with bytes ends ≡ items → AreEntries bytes ends → AreFields bytes ends items
fields_are bytes ends items view h = record {
  spelling = h.spelling ∙ ap entries_of view;
  ending = h.ending ∙ ap (ends_from 0) view;
  storable = subst (λ (xs : List ItemState). AreStorable xs) view h.storable;
}

pub many_fields : (bytes ends : List ℕ) (items : List ItemState) → AreFields bytes ends items → length ends ≡ length items
many_fields bytes ends items f = ap length f.ending ∙ length-ends_from 0 items

-- ---- where an item stands

-- between the two places the bytes spell the item, behind the number that precedes it
pub record IsItemBetween (bytes : List ℕ) (items : List ItemState) (at start end : ℕ) : Type 0 where
  pub order : start + 4 ≤ end
  pub within : end ≤ length bytes
  pub item : (d : ItemState) → Spells (take (end - (start + 4)) (drop (start + 4) bytes)) (get_or items at d)

behind_four : (bytes : List ℕ) (start end : ℕ) → start + 4 ≤ end → drop 4 (take (end - start) (drop start bytes)) ≡ take (end - (start + 4)) (drop (start + 4) bytes)
behind_four bytes start end order =
    let sum : end - start ≡ 4 + (end - (start + 4)) = omega (arith, order) in
    ap (λ (n : ℕ). drop 4 (take n (drop start bytes))) sum
    ∙ drop-take 4 (end - (start + 4)) (drop start bytes)
    ∙ ap (take (end - (start + 4))) (drop-drop 4 start bytes)

pub item_between : (bytes : List ℕ) (items : List ItemState) (at start end : ℕ) → bytes ≡ entries_of items → AreStorable items → at < length items
    → start ≡ size_of (take at items) → end ≡ size_of (take (at + 1) items) → IsItemBetween bytes items at start end
item_between bytes items at start end e storable within starts ends =
    let entry : take (end - start) (drop start bytes) ≡ entries_of (between at (at + 1) items) =
    entries_part bytes items at (at + 1) start end e (omega arith) starts ends
    in
    let four : 4 ≤ length (take (end - start) (drop start bytes)) = entry_long _ items at entry within in
    let few : length (take (end - start) (drop start bytes)) ≤ end - start =
    subst (λ (n : ℕ). n ≤ end - start) (sym (length-take (end - start) (drop start bytes))) (min-le_left (end - start) (length (drop start bytes)))
    in
    let order : start + 4 ≤ end = omega (arith, four, few) in
    record {
      order = order;
      within = omega (arith, ends, size_of-cut items (at + 1), size_is bytes items e);
      item = λ d. subst (λ (text : List ℕ). Spells text (get_or items at d)) (behind_four bytes start end order) (spelling_at _ items at d entry storable within);
    }

-- what is read of the bytes that spell the item is the item
pub read_there : (result : Result ItemState AllocError) (items : List ItemState) (at : ℕ) (text : List ℕ) → IfOk result (λ item. item_in text ≡ Some item) → ((d : ItemState) → item_in text ≡ Some (get_or items at d))
    → IfOk result (λ item. HoldsAt (λ own. item ≡ own) items at)
read_there (Ok item) items at text read is = λ d. same_Some item (get_or items at d) (sym read ∙ is d)
read_there (Err fault) items at text read is = tt
