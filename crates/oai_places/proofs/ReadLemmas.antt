-- What stands in front of bytes that are read, and that nothing else does.
use Rattle.std.proofs.Common.{◌≡◌, ◌∙◌, ◌==◌, ◌+◌, ◌-◌, ◌^◌, ◌<◌, ◌≤◌, ℕ, suc, zero, Bool, true, false, List, [], ◌∷◌, ◌++◌, Option, None, Some, is_some, length, take, drop, get_or, pos, Err, IsErrOf, Result, refl, sym, ap, subst, arith, inl, inr, append_assoc, length-append, length-take, length-drop}
use Rattle.std.specs.Prelude.{replicate}
use Rattle.std.specs.List.{list_all}
use Rattle.std.proofs.lemmas.Bool.{and_parts, cases_lt, eqb-true, false≢true}
use Rattle.std.proofs.lemmas.List.{append-nil, append_cancel_left, drop-drop, drop_at, drop_more, get_or-take, get_or_past, length-take-le, length_push, take-append-drop, take_at}
use Rattle.std.proofs.lemmas.Nat.{be_bytes_4}
use Rattle.oai_item.specs.Encoding.{Spells, encoded, encoded_count}
use Rattle.oai_item.specs.Item.{ItemState}
use Rattle.oai_item.specs.Order.{are_in_order}
use Rattle.oai_item.specs.declared.decodings.DecodeFault.{DecodeFault}
use Rattle.oai_item.specs.declared.decodings.DecodeFault.TheVariants.{Damaged, NoMemory}
use Rattle.oai_item.proofs.Around.{only_place}
use Rattle.oai_item.proofs.Numbers.{AreBytes}
use Rattle.oai_item.specs.Decoding.{item_in}
use Rattle.oai_places.specs.Entries.{AreEntries, HasEntries, HasEntry, HasNoEntry, IsEntryReading, items_with}
use Rattle.oai_places.specs.Pages.{AreStorable, IsPage, IsPageReading, entries_of, entry_of, first_number, items_of_entries, size_of}
use Rattle.oai_item.proofs.Decoded.{item_in-spelled, spelled-item_in}
use Rattle.oai_places.proofs.EntryLemmas.{are_entries, ends_from-append, entries_cut, entries_of-append, size_is, size_of-append, size_of-one, storable-append, storable-take, storable_at}
use Rattle.oai_places.proofs.PageLemmas.{behind_number, entries_of-cons, entries_of-nil, entry_parts, items_back, length-entry, number_back, page_parts, size_of-nil}

-- ---- a number

bytes_taken : (n : ℕ) (bytes : List ℕ) → AreBytes bytes → AreBytes (take n bytes)
bytes_taken n bytes h i =
    elim (cases_lt i n) [
      | inl lt ↦ rw (get_or-take n bytes i 0 lt) (h i)
      | inr le ↦ rw (get_or_past (take n bytes) i 0 (omega (arith, length-take n bytes))) (omega arith)
    ]

-- the first four bytes are the spelling of the number that they are read as
number_written : (bytes : List ℕ) → AreBytes bytes → 4 ≤ length bytes → take 4 bytes ≡ encoded_count (first_number bytes)
unfolding encoded_count
number_written bytes fits long = sym (be_bytes_4 (take 4 bytes) (first_number bytes) (omega (arith, length-take 4 bytes)) (bytes_taken 4 bytes fits) refl)

pub number_few : (bytes : List ℕ) → AreBytes bytes → first_number bytes < 2 ^ 32
number_few bytes fits =
    let four = bytes_taken 4 bytes fits in
    omega (arith, four 0, four 1, four 2, four 3)

-- ---- an entry

entry_read : (bytes : List ℕ) (item : ItemState) (behind : List ℕ) → Spells (encoded item) item → bytes ≡ entry_of item ++ behind
    → (first_number bytes ≡ length (encoded item)) × (drop 4 bytes ≡ encoded item ++ behind)
entry_read bytes item behind s e =
    let parts : bytes ≡ encoded_count (length (encoded item)) ++ (encoded item ++ behind) = e ∙ entry_parts item behind in (
      ap first_number parts ∙ number_back (length (encoded item)) (encoded item ++ behind) (omega (arith, s.few)),
      ap (drop 4) parts ∙ behind_number (length (encoded item)) (encoded item ++ behind),
    )

-- there is no entry in fewer than four bytes
pub no_number : (bytes : List ℕ) → length bytes < 4 → HasNoEntry bytes
no_number bytes short = λ item behind s e. omega (arith, short, ap length e, length-append (entry_of item) behind, length-entry item)

-- nor in fewer than are said to follow
pub no_room : (bytes : List ℕ) → length (drop 4 bytes) < first_number bytes → HasNoEntry bytes
no_room bytes short = λ item behind s e.
    let read = entry_read bytes item behind s e in
    omega (arith, short, read.0, ap length read.1, length-append (encoded item) behind)

-- nor where these spell no item
pub no_spelling : (bytes : List ℕ) → item_in (take (first_number bytes) (drop 4 bytes)) ≡ None → HasNoEntry bytes
no_spelling bytes none = λ item behind s e.
    let read = entry_read bytes item behind s e in
    let text : take (first_number bytes) (drop 4 bytes) ≡ encoded item =
    ap (λ n. take n (drop 4 bytes)) read.0 ∙ ap (take (length (encoded item))) read.1 ∙ take_at (encoded item) behind (length (encoded item)) refl
    in
    let found : item_in (take (first_number bytes) (drop 4 bytes)) ≡ Some item = ap item_in text ∙ item_in-spelled (encoded item) item s in
    let no : None ≡ Some item = sym none ∙ found in
    absurd cc

pub none_from : (found : Option ItemState) → is_some found ≡ false → found ≡ None
none_from None h = refl
none_from (Some item) h = absurd (false≢true (sym h))

pub some_from : (found : Option ItemState) → is_some found ≡ true → (item : ItemState) × (found ≡ Some item)
some_from None h = absurd (false≢true h)
some_from (Some item) h = (item, refl)

-- an entry is its length and a spelling
pub has_entry : (bytes : List ℕ) (item : ItemState) → AreBytes bytes → 4 ≤ length bytes → first_number bytes ≤ length (drop 4 bytes)
    → item_in (take (first_number bytes) (drop 4 bytes)) ≡ Some item → HasEntry bytes (4 + first_number bytes)
has_entry bytes item fits long room found =
    let len : ℕ = first_number bytes in
    let text : List ℕ = take len (drop 4 bytes) in
    let s : Spells text item = spelled-item_in text item found in
    let is : text ≡ encoded item = s.spelling in
    let many : len ≡ length (encoded item) = sym (length-take-le len (drop 4 bytes) room) ∙ ap length is in
    let front : take 4 bytes ≡ encoded_count (length (encoded item)) = number_written bytes fits long ∙ ap encoded_count many in
    let rest : drop 4 bytes ≡ encoded item ++ drop (4 + len) bytes = sym (take-append-drop len (drop 4 bytes)) ∙ (λ k. is k ++ drop-drop len 4 bytes k) in
    record {
      item = item;
      spelled = subst (λ (bs : List ℕ). Spells bs item) is s;
      long = omega (arith, many, length-entry item);
      parts = sym (take-append-drop 4 bytes) ∙ (λ k. front k ++ rest k) ∙ sym (entry_parts item (drop (4 + len) bytes));
    }

-- ---- entries one after the other

-- bytes have one list of so many entries in front
same_items : (bytes : List ℕ) (a b : List ItemState) (r s : List ℕ) → AreStorable a → AreStorable b → length a ≡ length b → bytes ≡ entries_of a ++ r → bytes ≡ entries_of b ++ s → a ≡ b
same_items bytes a b r s ha hb many e f =
    sym (items_back a r ha) ∙ ap (items_of_entries (length a)) (sym e ∙ f) ∙ ap (λ n. items_of_entries n (entries_of b ++ s)) many ∙ items_back b s hb

pub no_entries : (bytes : List ℕ) → HasEntries bytes [] 0 0
unfolding entries_of
no_entries bytes = record { items = []; storable = tt; many = refl; long = sym size_of-nil; parts = refl; ending = refl }

pub size_within : (bytes ends : List ℕ) (count size : ℕ) → HasEntries bytes ends count size → size ≤ length bytes
size_within bytes ends count size h =
    omega (arith, h.long, ap length h.parts, length-append (entries_of h.items) (drop size bytes), size_is (entries_of h.items) h.items refl)

entries_of-push : (items : List ItemState) (item : ItemState) → entries_of (items ++ item ∷ []) ≡ entries_of items ++ entry_of item
entries_of-push items item =
    let one : entries_of (item ∷ []) ≡ entry_of item = entries_of-cons item [] ∙ ap (λ bytes. entry_of item ++ bytes) entries_of-nil ∙ append-nil (entry_of item) in
    entries_of-append items (item ∷ []) ∙ ap (λ bytes. entries_of items ++ bytes) one

pub one_more : (bytes ends : List ℕ) (count size len : ℕ) → HasEntries bytes ends count size → HasEntry (drop size bytes) len → HasEntries bytes (ends ++ (size + len) ∷ []) (count + 1) (size + len)
one_more bytes ends count size len so_far entry =
    let items : List ItemState = so_far.items in
    let item : ItemState = entry.item in
    let rest : List ℕ = drop (size + len) bytes in
    let end : size + len ≡ 0 + size_of items + length (entry_of item) = omega (arith, so_far.long, entry.long) in
    record {
      items = items ++ item ∷ [];
      storable = storable-append items (item ∷ []) so_far.storable (entry.spelled, tt);
      many = length_push items item ∙ ap (λ n. n + 1) so_far.many;
      long = omega (arith, so_far.long, entry.long, size_of-append items (item ∷ []), size_of-one item, length-entry item);
      parts = so_far.parts ∙ ap (λ bs. entries_of items ++ bs) (entry.parts ∙ ap (λ bs. entry_of item ++ bs) (drop-drop len size bytes))
          ∙ sym (append_assoc (entries_of items) (entry_of item) rest) ∙ ap (λ bs. bs ++ rest) (sym (entries_of-push items item));
      ending = (λ k. so_far.ending k ++ end k ∷ []) ∙ sym (ends_from-append 0 items (item ∷ []));
    }

-- where reading an entry answers that the bytes are damaged, none stands there
pub no_entry_read : {T : Type 0} (bytes : List ℕ) (fault told : DecodeFault) (result : Result T DecodeFault)
    → IsErrOf result Damaged → result ≡ Err told → told ≡ fault → IsEntryReading bytes (Err fault) → HasNoEntry bytes
no_entry_read bytes Damaged told result damaged is same reading = reading
no_entry_read bytes NoMemory told result damaged is same reading =
    let refused : result ≡ Err NoMemory = is ∙ ap Err same in
    let differ = sym refused ∙ damaged in
    absurd cc

-- where the next entry is none, there are not so many
pub no_more : (bytes ends : List ℕ) (count size whole : ℕ) → HasEntries bytes ends count size → count < whole → HasNoEntry (drop size bytes)
    → (items : List ItemState) (behind : List ℕ) → AreStorable items → length items ≡ whole → bytes ≡ entries_of items ++ behind → ⊥
unfolding size_of
no_more bytes ends count size whole so_far below none items behind storable many e =
    let d : ItemState = only_place (pos 0) [] in
    let item : ItemState = get_or items count d in
    let within : count < length items = omega (arith, below, many) in
    let front : List ItemState = take count items in
    let parts : bytes ≡ entries_of front ++ (entries_of (drop count items) ++ behind) =
    e ∙ ap (λ bs. bs ++ behind) (entries_cut count items) ∙ append_assoc (entries_of front) (entries_of (drop count items)) behind
    in
    let same : so_far.items ≡ front =
    same_items bytes so_far.items front (drop size bytes) (entries_of (drop count items) ++ behind) so_far.storable (storable-take count items storable)
    (so_far.many ∙ sym (length-take-le count items (omega (arith, within)))) so_far.parts parts
    in
    let long : length (entries_of front) ≡ size = sym (so_far.long ∙ ap size_of same) in
    let there : entries_of (drop count items) ≡ entry_of item ++ entries_of (drop (count + 1) items) =
    ap entries_of (drop_more items count d within) ∙ entries_of-cons item (drop (count + 1) items)
    in
    let here : drop size bytes ≡ entry_of item ++ (entries_of (drop (count + 1) items) ++ behind) =
    ap (drop size) parts ∙ drop_at (entries_of front) (entries_of (drop count items) ++ behind) size long ∙ ap (λ bs. bs ++ behind) there
    ∙ append_assoc (entry_of item) (entries_of (drop (count + 1) items)) behind
    in
    none item (entries_of (drop (count + 1) items) ++ behind) (storable_at items count d storable within) here

-- ---- zeros

abbrev pub is_zero : ℕ → Bool
is_zero byte = byte == 0

pub zeros_are : (bytes : List ℕ) → list_all is_zero bytes ≡ true → bytes ≡ replicate (length bytes) 0
zeros_are [] h = refl
zeros_are (byte ∷ bytes) h =
    let parts = and_parts (is_zero byte) (list_all is_zero bytes) h in
    let zero_is : byte ≡ 0 = eqb-true byte 0 parts.0 in
    let others : bytes ≡ replicate (length bytes) 0 = zeros_are bytes parts.1 in
    λ k. zero_is k ∷ others k

pub all_zeros : (n : ℕ) → list_all is_zero (replicate n 0) ≡ true
all_zeros zero = refl
all_zeros (suc n) = all_zeros n

-- ---- a page

pub page_read : (bytes : List ℕ) (items : List ItemState) → IsPage bytes items
    → (first_number bytes ≡ length items) × (drop 4 bytes ≡ entries_of items ++ replicate (length bytes - 4 - size_of items) 0)
page_read bytes items page =
    let behind : List ℕ = entries_of items ++ replicate (length bytes - 4 - size_of items) 0 in
    let parts : bytes ≡ encoded_count (length items) ++ behind = page.spelling ∙ page_parts (length bytes - 4) items in (
      ap first_number parts ∙ number_back (length items) behind page.fit.few,
      ap (drop 4) parts ∙ behind_number (length items) behind,
    )

pub entries_seen : (bytes rest ends : List ℕ) (count size : ℕ) → rest ≡ drop 4 bytes → count ≡ first_number bytes → HasEntries rest ends count size → HasEntries (drop 4 bytes) ends (first_number bytes) size
entries_seen bytes rest ends count size r e h = record {
  items = h.items;
  storable = h.storable;
  many = h.many ∙ e;
  long = h.long;
  parts = sym r ∙ h.parts ∙ ap (λ bs. entries_of h.items ++ drop size bs) r;
  ending = h.ending;
}

pub same_seen : (bytes rest ends : List ℕ) (count size : ℕ) (r : rest ≡ drop 4 bytes) (e : count ≡ first_number bytes) (h : HasEntries rest ends count size)
    → h.items ≡ (entries_seen bytes rest ends count size r e h).items
unfolding entries_seen
same_seen bytes rest ends count size r e h = refl

-- what is made of them
pub entries_read : (rest bytes ends : List ℕ) (count size : ℕ) (h : HasEntries rest ends count size) → bytes ≡ take size rest → (items_with bytes ends ≡ h.items) × AreEntries bytes ends
unfolding size_of
entries_read rest bytes ends count size h e =
    are_entries bytes ends h.items (e ∙ ap (take size) h.parts ∙ take_at (entries_of h.items) (drop size rest) size (sym h.long)) h.ending h.storable

-- a page has some items
pub no_page-none : (bytes : List ℕ) → first_number bytes ≡ 0 → (items : List ItemState) → IsPage bytes items → ⊥
no_page-none bytes none items page = omega (arith, none, (page_read bytes items page).0, page.fit.some)

-- and as many entries as it says
pub no_page-entries : (bytes : List ℕ) → ((items : List ItemState) (behind : List ℕ) → AreStorable items → length items ≡ first_number bytes → drop 4 bytes ≡ entries_of items ++ behind → ⊥)
    → (items : List ItemState) → IsPage bytes items → ⊥
no_page-entries bytes none items page =
    let read = page_read bytes items page in
    none items (replicate (length bytes - 4 - size_of items) 0) page.fit.storable (sym read.0) read.1

-- its items are those of the entries
page_items : (bytes ends : List ℕ) (size : ℕ) (so_far : HasEntries (drop 4 bytes) ends (first_number bytes) size) (items : List ItemState) → IsPage bytes items → so_far.items ≡ items
page_items bytes ends size so_far items page =
    let read = page_read bytes items page in
    same_items (drop 4 bytes) so_far.items items (drop size (drop 4 bytes)) (replicate (length bytes - 4 - size_of items) 0) so_far.storable page.fit.storable (so_far.many ∙ read.0) so_far.parts read.1

-- and zeros behind them
pub no_page-zeros : (bytes ends : List ℕ) (size : ℕ) → HasEntries (drop 4 bytes) ends (first_number bytes) size → list_all is_zero (drop size (drop 4 bytes)) ≡ false
    → (items : List ItemState) → IsPage bytes items → ⊥
no_page-zeros bytes ends size so_far other items page =
    let read = page_read bytes items page in
    let same = page_items bytes ends size so_far items page in
    let zeros : List ℕ = replicate (length bytes - 4 - size_of items) 0 in
    let are : drop size (drop 4 bytes) ≡ zeros =
    append_cancel_left (entries_of items) (drop size (drop 4 bytes)) zeros (ap (λ (xs : List ItemState). entries_of xs ++ drop size (drop 4 bytes)) (sym same) ∙ sym so_far.parts ∙ read.1)
    in
    false≢true (sym other ∙ ap (list_all is_zero) are ∙ all_zeros (length bytes - 4 - size_of items))

-- and they rise
pub no_page-rising : (bytes ends : List ℕ) (size : ℕ) (so_far : HasEntries (drop 4 bytes) ends (first_number bytes) size) → are_in_order so_far.items ≡ false
    → (items : List ItemState) → IsPage bytes items → ⊥
no_page-rising bytes ends size so_far falls items page =
    false≢true (sym falls ∙ ap are_in_order (page_items bytes ends size so_far items page) ∙ page.fit.rising)

-- bytes that have all of this are a page
pub is_page : (bytes ends : List ℕ) (size : ℕ) (so_far : HasEntries (drop 4 bytes) ends (first_number bytes) size) → AreBytes bytes → 4 ≤ length bytes
    → 0 < first_number bytes → list_all is_zero (drop size (drop 4 bytes)) ≡ true → are_in_order so_far.items ≡ true → IsPage bytes so_far.items
is_page bytes ends size so_far fits long some zeros rising =
    let four = bytes_taken 4 bytes fits in
    let few : first_number bytes < 2 ^ 32 = omega (arith, four 0, four 1, four 2, four 3) in
    let items : List ItemState = so_far.items in
    let rest : List ℕ = drop size (drop 4 bytes) in
    let front : take 4 bytes ≡ encoded_count (length items) = number_written bytes fits long ∙ ap encoded_count (sym so_far.many) in
    let sizes : size_of items + length rest ≡ length bytes - 4 =
    omega (arith, long, ap length so_far.parts, length-append (entries_of items) rest, size_is (entries_of items) items refl, length-drop 4 bytes)
    in
    let left : length rest ≡ length bytes - 4 - size_of items = omega (arith, sizes) in
    let behind : rest ≡ replicate (length bytes - 4 - size_of items) 0 = zeros_are rest zeros ∙ ap (λ n. replicate n 0) left in
    let back : drop 4 bytes ≡ entries_of items ++ replicate (length bytes - 4 - size_of items) 0 = so_far.parts ∙ ap (λ bs. entries_of items ++ bs) behind in
    record {
      spelling = sym (take-append-drop 4 bytes) ∙ (λ k. front k ++ back k) ∙ sym (page_parts (length bytes - 4) items);
      fit = record {
        some = omega (arith, some, so_far.many);
        few = omega (arith, few, so_far.many);
        storable = so_far.storable;
        rising = rising;
      };
    }

-- what is told of a page that could not be read
pub page_fails : (bytes : List ℕ) (fault : DecodeFault) → (fault ≡ Damaged → (items : List ItemState) → IsPage bytes items → ⊥) → IsPageReading bytes (Err fault)
page_fails bytes Damaged h = h refl
page_fails bytes NoMemory h = tt
