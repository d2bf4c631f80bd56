-- The items of a page are those that it was made of.
use Rattle.std.proofs.Common.{◌≡◌, ◌∙◌, ◌+◌, ◌-◌, ◌*◌, ◌^◌, ◌<◌, ◌≤◌, ℕ, suc, List, [], ◌∷◌, ◌++◌, Some, length, take, drop, refl, sym, ap, arith, w32, append_assoc, length-append}
use Rattle.std.specs.Prelude.{replicate}
use Rattle.std.specs.Int.{from_be_bytes, to_be_bytes}
use Rattle.std.proofs.lemmas.List.{drop-drop, drop_at, take_at}
use Rattle.std.proofs.lemmas.Nat.{from_be_bytes-to_be_bytes_4}
use Rattle.oai_item.specs.Encoding.{Spells, encoded, encoded_count, encoded_text}
use Rattle.oai_item.specs.Item.{ItemState}
use Rattle.oai_item.proofs.Lengths.{length-encoded_count, length-encoded_text}
use Rattle.oai_item.specs.Decoding.{item_in}
use Rattle.oai_places.specs.Pages.{AreStorable, IsPage, as_list, entries_of, entry_of, first_number, items_of_entries, items_in, page_spelling, size_of, written}
use Rattle.oai_item.proofs.Decoded.{item_in-spelled}

-- ---- numbers

pub number_spelled : (n : ℕ) → to_be_bytes w32 n ≡ encoded_count n
unfolding encoded_count
number_spelled n = refl

-- a number in front of bytes is read as it was written
pub number_back : (n : ℕ) (rest : List ℕ) → n < 2 ^ 32 → first_number (encoded_count n ++ rest) ≡ n
unfolding encoded_count
number_back n rest fits = ap (from_be_bytes w32) (take_at (encoded_count n) rest 4 refl) ∙ from_be_bytes-to_be_bytes_4 n fits

pub behind_number : (n : ℕ) (rest : List ℕ) → drop 4 (encoded_count n ++ rest) ≡ rest
unfolding encoded_count
behind_number n rest = drop_at (encoded_count n) rest 4 refl

-- ---- entries

pub length-entry : (item : ItemState) → length (entry_of item) ≡ 4 + length (encoded item)
unfolding entry_of
length-entry item = length-encoded_text (encoded item)

pub entry_parts : (item : ItemState) (rest : List ℕ) → entry_of item ++ rest ≡ encoded_count (length (encoded item)) ++ (encoded item ++ rest)
unfolding entry_of encoded_text
entry_parts item rest = append_assoc (encoded_count (length (encoded item))) (encoded item) rest

pub entries_of-cons : (item : ItemState) (items : List ItemState) → entries_of (item ∷ items) ≡ entry_of item ++ entries_of items
unfolding entries_of
entries_of-cons item items = refl

pub entries_of-nil : entries_of [] ≡ []
unfolding entries_of
entries_of-nil = refl

pub size_of-nil : size_of [] ≡ 0
unfolding size_of entries_of
size_of-nil = refl

pub size_of-cons : (item : ItemState) (items : List ItemState) → size_of (item ∷ items) ≡ length (entry_of item) + size_of items
unfolding size_of entries_of
size_of-cons item items = length-append (entry_of item) (entries_of items)

-- there are at least four bytes for each item
pub size_of-least : (items : List ItemState) → 4 * length items ≤ size_of items
size_of-least [] = omega (arith, size_of-nil)
size_of-least (item ∷ items) = omega (arith, size_of-least items, size_of-cons item items, length-entry item)

-- ---- what is read from entries

-- the first entry is read as its item, and then the others
one_back : (item : ItemState) (n : ℕ) (rest : List ℕ) → Spells (encoded item) item
    → items_of_entries (suc n) (encoded_count (length (encoded item)) ++ (encoded item ++ rest)) ≡ item ∷ items_of_entries n rest
one_back item n rest s =
    let text : List ℕ = encoded item in
    let bytes : List ℕ = encoded_count (length text) ++ (text ++ rest) in
    let number : first_number bytes ≡ length text = number_back (length text) (text ++ rest) (omega (arith, s.few)) in
    let behind : drop 4 bytes ≡ text ++ rest = behind_number (length text) (text ++ rest) in
    let front : take (first_number bytes) (drop 4 bytes) ≡ text = ap (λ k. take k (drop 4 bytes)) number ∙ ap (take (length text)) behind ∙ take_at text rest (length text) refl in
    let back : drop (4 + first_number bytes) bytes ≡ rest =
    ap (λ k. drop (4 + k) bytes) number ∙ sym (drop-drop (length text) 4 bytes) ∙ ap (drop (length text)) behind ∙ drop_at text rest (length text) refl
    in
    let here : item_in (take (first_number bytes) (drop 4 bytes)) ≡ Some item = ap item_in front ∙ item_in-spelled text item s in
    λ k. as_list (here k) ++ items_of_entries n (back k)

-- of entries in front of bytes their items are read
pub items_back : (items : List ItemState) (rest : List ℕ) → AreStorable items → items_of_entries (length items) (entries_of items ++ rest) ≡ items
items_back [] rest h = refl
items_back (item ∷ items) rest h =
    let parts : entries_of (item ∷ items) ++ rest ≡ encoded_count (length (encoded item)) ++ (encoded item ++ (entries_of items ++ rest)) =
    ap (λ bytes. bytes ++ rest) (entries_of-cons item items) ∙ append_assoc (entry_of item) (entries_of items) rest ∙ entry_parts item (entries_of items ++ rest)
    in
    ap (items_of_entries (suc (length items))) parts ∙ one_back item (length items) (entries_of items ++ rest) h.0 ∙ ap (λ others. item ∷ others) (items_back items rest h.1)

-- ---- the items of a page

pub written_parts : (items : List ItemState) → written items ≡ encoded_count (length items) ++ entries_of items
unfolding written
written_parts items = refl

pub length-written : (items : List ItemState) → length (written items) ≡ 4 + size_of items
unfolding written size_of
length-written items = omega (arith, length-append (encoded_count (length items)) (entries_of items), length-encoded_count (length items))

pub page_parts : (room : ℕ) (items : List ItemState) → page_spelling room items ≡ encoded_count (length items) ++ (entries_of items ++ replicate (room - size_of items) 0)
unfolding page_spelling written
page_parts room items = append_assoc (encoded_count (length items)) (entries_of items) (replicate (room - size_of items) 0)

pub items_in-page : (bytes : List ℕ) (items : List ItemState) → IsPage bytes items → items_in bytes ≡ items
unfolding items_in
items_in-page bytes items page =
    let behind : List ℕ = entries_of items ++ replicate (length bytes - 4 - size_of items) 0 in
    let few : length items < 2 ^ 32 = page.fit.few in
    ap items_in (page.spelling ∙ page_parts (length bytes - 4) items)
    ∙ (λ k. items_of_entries (number_back (length items) behind few k) (behind_number (length items) behind k))
    ∙ items_back items (replicate (length bytes - 4 - size_of items) 0) page.fit.storable
