-- Entries with one in place of others, and without one.
use Rattle.std.proofs.Common.{◌≡◌, ◌∙◌, ◌+◌, ◌-◌, ◌^◌, ◌<◌, ◌≤◌, ℕ, ℤ, List, [], ◌∷◌, ◌++◌, Result, Ok, Err, Option, Some, IsSome, length, take, drop, get_or, refl, sym, ap, subst, arith, add-one, append_assoc, length-append}
use Rattle.std.specs.Prelude.{All, IfOk, map}
use Rattle.std.proofs.lemmas.List.{drop_at, get_or_default, length-take-le, map-append, take-append-drop, take_at, take_more}
use Rattle.oai_item.specs.Encoding.{Spells, encoded, encoded_count, encoded_text}
use Rattle.oai_item.specs.Item.{ItemState}
use Rattle.oai_item.specs.Items.{with_item}
use Rattle.oai_item.specs.Order.{IsPlace}
use Rattle.oai_item.proofs.Around.{item_at-found, only_place, with_item-found, with_item-missing, without_at-found}
use Rattle.oai_names.proofs.Lists.{set_cut}
use Rattle.oai_places.specs.Entries.{AreEntries, ends_from, items_with}
use Rattle.oai_places.specs.Pages.{AreStorable, IsRemoval, entries_of, entry_of, size_of}
use Rattle.oai_places.proofs.EntryLemmas.{AreFields, are_entries, ends_from-append, ends_moved, ends_within, entries_of-append, length-ends_from, storable-append, storable-drop, storable-take}
use Rattle.oai_places.proofs.PageLemmas.{entries_of-cons}

-- ---- the ends before a place, and behind it

ends_cut : (at : ℕ) (items : List ItemState) → ends_from 0 items ≡ ends_from 0 (take at items) ++ ends_from (size_of (take at items)) (drop at items)
ends_cut at items =
    let e : 0 + size_of (take at items) ≡ size_of (take at items) = omega arith in
    ap (ends_from 0) (sym (take-append-drop at items)) ∙ ends_from-append 0 (take at items) (drop at items) ∙ ap (λ n. ends_from 0 (take at items) ++ ends_from n (drop at items)) e

ends_before : (at : ℕ) (ends : List ℕ) (items : List ItemState) → at ≤ length items → ends ≡ ends_from 0 items → take at ends ≡ ends_from 0 (take at items)
ends_before at ends items within e =
    ap (take at) (e ∙ ends_cut at items)
    ∙ take_at (ends_from 0 (take at items)) (ends_from (size_of (take at items)) (drop at items)) at (length-ends_from 0 (take at items) ∙ length-take-le at items within)

pub ends_behind : (at : ℕ) (ends : List ℕ) (items : List ItemState) → at ≤ length items → ends ≡ ends_from 0 items → drop at ends ≡ ends_from (size_of (take at items)) (drop at items)
ends_behind at ends items within e =
    ap (drop at) (e ∙ ends_cut at items)
    ∙ drop_at (ends_from 0 (take at items)) (ends_from (size_of (take at items)) (drop at items)) at (length-ends_from 0 (take at items) ∙ length-take-le at items within)

-- those behind a place are above it
pub ends_above : (at behind : ℕ) (ends more : List ℕ) (items : List ItemState) → at ≤ length items → ends ≡ ends_from 0 items → more ≡ drop at ends → behind ≡ size_of (take at items)
    → All (λ end. behind ≤ end) more
ends_above at behind ends more items within e m b = λ k d inside.
    let is : more ≡ ends_from (size_of (take at items)) (drop at items) = m ∙ ends_behind at ends items within e in
    let many : length more ≡ length (drop at items) = ap length is ∙ length-ends_from (size_of (take at items)) (drop at items) in
    let here : get_or more k d ≡ get_or (ends_from (size_of (take at items)) (drop at items)) k 0 = get_or_default more k d 0 inside ∙ ap (λ (xs : List ℕ). get_or xs k 0) is in
    omega (arith, b, here, (ends_within (size_of (take at items)) (drop at items) k (omega (arith, inside, many))).0)

-- and can be moved
pub ends_fit : (at behind to : ℕ) (ends more : List ℕ) (items : List ItemState) → at ≤ length items → ends ≡ ends_from 0 items → more ≡ drop at ends → behind ≡ size_of (take at items)
    → to + size_of (drop at items) < 2 ^ 64 → All (λ end. end + to < behind + 2 ^ 64) more
ends_fit at behind to ends more items within e m b fits = λ k d inside.
    let is : more ≡ ends_from (size_of (take at items)) (drop at items) = m ∙ ends_behind at ends items within e in
    let many : length more ≡ length (drop at items) = ap length is ∙ length-ends_from (size_of (take at items)) (drop at items) in
    let here : get_or more k d ≡ get_or (ends_from (size_of (take at items)) (drop at items)) k 0 = get_or_default more k d 0 inside ∙ ap (λ (xs : List ℕ). get_or xs k 0) is in
    omega (arith, b, fits, here, (ends_within (size_of (take at items)) (drop at items) k (omega (arith, inside, many))).1)

moved : (at behind to : ℕ) (ends : List ℕ) (items : List ItemState) → at ≤ length items → ends ≡ ends_from 0 items → behind ≡ size_of (take at items)
    → map (λ end. end - behind + to) (drop at ends) ≡ ends_from to (drop at items)
moved at behind to ends items within e b =
    let is : drop at ends ≡ ends_from behind (drop at items) = ends_behind at ends items within e ∙ ap (λ n. ends_from n (drop at items)) (sym b) in
    let start : behind - behind + to ≡ to = omega arith in
    ap (map (λ end. end - behind + to)) is ∙ ends_moved behind to behind (drop at items) (omega arith) ∙ ap (λ n. ends_from n (drop at items)) start

-- ---- one entry in place of others

pub with_one : (ends new_bytes new_ends before more : List ℕ) (items : List ItemState) (from to behind end : ℕ) (item : ItemState) → ends ≡ ends_from 0 items → AreStorable items → from ≤ to → to ≤ length items
    → Spells (encoded item) item → behind ≡ size_of (take to items) → end ≡ size_of (take from items) + length (entry_of item)
    → new_bytes ≡ entries_of (take from items) ++ (entry_of item ++ entries_of (drop to items))
    → before ≡ take from ends → more ≡ drop to ends → new_ends ≡ (before ++ end ∷ []) ++ map (λ n. n - behind + end) more
    → (items_with new_bytes new_ends ≡ take from items ++ (item ∷ drop to items)) × AreEntries new_bytes new_ends
with_one ends new_bytes new_ends before more items from to behind end item ending storable order within s begins ended b first then_is e =
    let front : List ItemState = take from items in
    let rear : List ItemState = drop to items in
    let all_bytes : new_bytes ≡ entries_of (front ++ (item ∷ rear)) =
    b ∙ ap (λ bs. entries_of front ++ bs) (sym (entries_of-cons item rear)) ∙ sym (entries_of-append front (item ∷ rear))
    in
    let place : end ≡ 0 + size_of front + length (entry_of item) = omega (arith, ended) in
    let are_before : before ≡ ends_from 0 front = first ∙ ends_before from ends items (omega (arith, order, within)) ending in
    let are_behind : map (λ n. n - behind + end) more ≡ ends_from end rear = ap (map (λ n. n - behind + end)) then_is ∙ moved to behind end ends items within ending begins in
    let all_ends : new_ends ≡ ends_from 0 (front ++ (item ∷ rear)) =
    e ∙ (λ k. (are_before k ++ end ∷ []) ++ are_behind k)
    ∙ append_assoc (ends_from 0 front) (end ∷ []) (ends_from end rear)
    ∙ ap (λ n. ends_from 0 front ++ (n ∷ ends_from n rear)) place ∙ sym (ends_from-append 0 front (item ∷ rear))
    in
    are_entries new_bytes new_ends (front ++ (item ∷ rear)) all_bytes all_ends
    (storable-append front (item ∷ rear) (storable-take from items storable) (s, storable-drop to items storable))

pub without_one : (ends new_bytes new_ends before more : List ℕ) (items : List ItemState) (at start behind : ℕ) → ends ≡ ends_from 0 items → AreStorable items → at < length items
    → start ≡ size_of (take at items) → behind ≡ size_of (take (at + 1) items)
    → new_bytes ≡ entries_of (take at items) ++ entries_of (drop (at + 1) items)
    → before ≡ take at ends → more ≡ drop (at + 1) ends → new_ends ≡ before ++ map (λ n. n - behind + start) more
    → (items_with new_bytes new_ends ≡ take at items ++ drop (at + 1) items) × AreEntries new_bytes new_ends
without_one ends new_bytes new_ends before more items at start behind ending storable within starts begins b first then_is e =
    let front : List ItemState = take at items in
    let rear : List ItemState = drop (at + 1) items in
    let all_bytes : new_bytes ≡ entries_of (front ++ rear) = b ∙ sym (entries_of-append front rear) in
    let place : start ≡ 0 + size_of front = omega (arith, starts) in
    let are_before : before ≡ ends_from 0 front = first ∙ ends_before at ends items (omega (arith, within)) ending in
    let are_behind : map (λ n. n - behind + start) more ≡ ends_from start rear =
    ap (map (λ n. n - behind + start)) then_is ∙ moved (at + 1) behind start ends items (omega (arith, within)) ending begins
    in
    let all_ends : new_ends ≡ ends_from 0 (front ++ rear) =
    e ∙ (λ k. are_before k ++ are_behind k) ∙ ap (λ n. ends_from 0 front ++ ends_from n rear) place ∙ sym (ends_from-append 0 front rear)
    in
    are_entries new_bytes new_ends (front ++ rear) all_bytes all_ends (storable-append front rear (storable-take at items storable) (storable-drop (at + 1) items storable))

-- ---- entries behind others

pub joined_entries : (bytes ends other_bytes other_ends new_bytes new_ends before : List ℕ) (items others : List ItemState) (start : ℕ) → AreFields bytes ends items → AreFields other_bytes other_ends others
    → start ≡ size_of items → new_bytes ≡ bytes ++ other_bytes → before ≡ ends → new_ends ≡ before ++ map (λ n. n - 0 + start) other_ends
    → (items_with new_bytes new_ends ≡ items ++ others) × AreEntries new_bytes new_ends
joined_entries bytes ends other_bytes other_ends new_bytes new_ends before items others start h k starts b first e =
    let all_bytes : new_bytes ≡ entries_of (items ++ others) = b ∙ (λ i. h.spelling i ++ k.spelling i) ∙ sym (entries_of-append items others) in
    let place : 0 - 0 + start ≡ 0 + size_of items = omega (arith, starts) in
    let are_moved : map (λ n. n - 0 + start) other_ends ≡ ends_from (0 + size_of items) others =
    ap (map (λ n. n - 0 + start)) k.ending ∙ ends_moved 0 start 0 others (omega arith) ∙ ap (λ n. ends_from n others) place in
    let all_ends : new_ends ≡ ends_from 0 (items ++ others) =
    e ∙ (λ i. (first ∙ h.ending) i ++ are_moved i) ∙ sym (ends_from-append 0 items others) in
    are_entries new_bytes new_ends (items ++ others) all_bytes all_ends (storable-append items others h.storable k.storable)

pub map_more : (f : ℕ → ℕ) (front old xs : List ℕ) (i : ℕ) → i < length xs → old ≡ front ++ map f (take i xs) → old ++ f (get_or xs i 0) ∷ [] ≡ front ++ map f (take (i + 1) xs)
map_more f front old xs i within e =
    let x : ℕ = get_or xs i 0 in
    ap (λ ys. ys ++ f x ∷ []) e ∙ append_assoc front (map f (take i xs)) (f x ∷ [])
    ∙ ap (λ ys. front ++ ys) (sym (ap (map f) (take_more xs i 0 within) ∙ map-append f (take i xs) (x ∷ [])))

pub joined_size : (front middle back whole : List ℕ) → whole ≡ front ++ (middle ++ back) → length whole ≡ length front + length middle + length back
joined_size front middle back whole e = omega (arith, ap length e, length-append front (middle ++ back), length-append middle back)

-- ---- an entry

pub entry_encoded : (item : ItemState) (len : ℕ) → len ≡ length (encoded item) → encoded_count len ++ encoded item ≡ entry_of item
unfolding entry_of encoded_text
entry_encoded item len is = ap (λ n. encoded_count n ++ encoded item) is

pub all_written : (n : ℕ) (new old : List ℕ) → length new ≡ n → take n (new ++ drop (length new) old) ≡ new
all_written n new old is = ap (λ m. take m (new ++ drop (length new) old)) (sym is) ∙ take_at new (drop (length new) old) (length new) refl

-- ---- what is put, and what is removed

pub put_found : (item : ItemState) (items : List ItemState) (at : ℕ) (stamp : ℤ) (identifier : List ℕ) → stamp ≡ item.stamp → identifier ≡ item.identifier
    → IsPlace items stamp identifier (Ok at) → take at items ++ (item ∷ drop (at + 1) items) ≡ with_item item items
put_found item items at stamp identifier s i place =
    let here : IsPlace items item.stamp item.identifier (Ok at) =
    subst (λ (z : ℤ). IsPlace items z item.identifier (Ok at)) s (subst (λ (text : List ℕ). IsPlace items stamp text (Ok at)) i place)
    in
    sym (with_item-found item items at item here ∙ set_cut items at item here.0)

pub put_missing : (item : ItemState) (items : List ItemState) (at : ℕ) (stamp : ℤ) (identifier : List ℕ) → stamp ≡ item.stamp → identifier ≡ item.identifier
    → IsPlace items stamp identifier (Err at) → take at items ++ (item ∷ drop (at + 0) items) ≡ with_item item items
put_missing item items at stamp identifier s i place =
    let here : IsPlace items item.stamp item.identifier (Err at) =
    subst (λ (z : ℤ). IsPlace items z item.identifier (Err at)) s (subst (λ (text : List ℕ). IsPlace items stamp text (Err at)) i place)
    in
    let same : at + 0 ≡ at = omega arith in
    ap (λ n. take at items ++ (item ∷ drop n items)) same ∙ sym (with_item-missing item items at here)

-- where there are items and the places where they are cut, the items are these
pub put_where : {A E : Type 0} (result : Result (List ItemState × A) E) (a b : List ItemState) → a ≡ b → IfOk result (λ put. put.0 ≡ a) → IfOk result (λ put. put.0 ≡ b)
put_where (Ok put) a b e is = is ∙ e
put_where (Err fault) a b e is = tt

pub removed : (items left : List ItemState) (at : ℕ) (stamp : ℤ) (identifier : List ℕ) → IsPlace items stamp identifier (Ok at)
    → left ≡ take at items ++ drop (at + 1) items → IsRemoval stamp identifier items (Some left)
removed items left at stamp identifier place e =
    let d : ItemState = only_place stamp identifier in (
      subst (λ (found : Option ItemState). IsSome found) (sym (item_at-found stamp identifier items at d place)) refl,
      e ∙ ap (λ n. take at items ++ drop n items) (add-one at) ∙ sym (without_at-found stamp identifier items at d place),
    )
