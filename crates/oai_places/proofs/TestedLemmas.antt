-- Entries of pages that are known to spell items, and the pages of which that is known.
use Rattle.std.proofs.Common.{◌≡◌, ◌∙◌, ◌+◌, ◌-◌, ◌^◌, ◌<◌, ◌≤◌, ◌&&◌, nat_le, ℕ, suc, zero, Bool, true, false, Option, Some, IsSome, is_some, unwrap_or, List, [], ◌∷◌, ◌++◌, length, take, drop, get_or, refl, sym, ap, subst, arith, append_assoc, length-append, length-drop}
use Rattle.std.specs.List.{list_all}
use Rattle.std.specs.Prelude.{replicate}
use Rattle.std.proofs.lemmas.Bool.{and_parts}
use Rattle.std.proofs.lemmas.Bool.Decides.{nat_tests}
use Rattle.std.proofs.lemmas.List.{drop-drop, drop_at, take_at}
use Rattle.oai_item.specs.Decoding.{item_in}
use Rattle.oai_item.specs.Encoding.{Spells, encoded, encoded_count}
use Rattle.oai_item.specs.Item.{ItemState}
use Rattle.oai_item.proofs.Decoded.{item_in-spelled}
use Rattle.oai_item.proofs.Numbers.{AreBytes}
use Rattle.oai_item.specs.declared.faults.Fault.{Fault}
use Rattle.oai_pool.specs.Calls as pools
use Rattle.oai_pool.specs.declared.kinds.PageKind.{PageKind}
use Rattle.oai_pool.specs.declared.kinds.PageKind.TheVariants.{Bytes, Items}
use Rattle.oai_pool.specs.declared.pools.PagePool.{Ghosts}
use Rattle.oai_pool.specs.Kinds.{has_items, is_of, leading_number, spells_item, spells_items}
use Rattle.oai_places.specs.Calls.{Evicts, ReadsPages}
use Rattle.oai_places.specs.Entries.{HasEntries, HasEntry}
use Rattle.oai_places.specs.Pages.{AreStorable, FitAlone, IsPage, entries_of, entry_of, first_number, fit_one, joined_pages, kind_for, overflow_of, page_spelling, pages_of, size_of}
use Rattle.oai_places.specs.Places.{Pages, page_at}
use Rattle.oai_places.specs.declared.sizes.TheConstants.{MAX_ENTRY_BYTES}
use Rattle.oai_places.proofs.InsidePlaces.{few_items}
use Rattle.oai_places.proofs.OverflowLemmas.{joined_pages-one, long_from, overflow-one, pages-one}
use Rattle.oai_places.proofs.PageLemmas.{behind_number, entries_of-cons, entry_parts, length-entry, number_back, page_parts}
use Rattle.oai_places.proofs.ReadLemmas.{all_zeros, has_entry, is_zero, no_entries, one_more, page_read, some_from}
use Rattle.oai_places.proofs.RecountLemmas.{spares_from, spares_none, spares_then}
use Rattle.oai_places.proofs.SpendingLemmas.{err_of, spends_freed_err}

-- ---- what is read

abbrev text_in : List ℕ → List ℕ
text_in bytes = take (leading_number bytes) (drop 4 bytes)

entry_told : (bytes : List ℕ) → spells_item bytes ≡ true → (nat_le (4 + leading_number bytes) (length bytes) ≡ true) × (is_some (item_in (text_in bytes)) ≡ true)
unfolding spells_item
entry_told bytes h = and_parts (nat_le (4 + leading_number bytes) (length bytes)) (is_some (item_in (text_in bytes))) h

-- an entry that is known to spell an item is within the bytes
pub entry_within : (bytes : List ℕ) → spells_item bytes ≡ true → 4 + first_number bytes ≤ length bytes
entry_within bytes h =
    let told = (entry_told bytes h).0 in
    grind (arith, nat_tests)

-- and it is one
pub entry_known : (bytes : List ℕ) → AreBytes bytes → spells_item bytes ≡ true → HasEntry bytes (4 + first_number bytes)
entry_known bytes fits h =
    let within = entry_within bytes h in
    let found = some_from (item_in (text_in bytes)) (entry_told bytes h).1 in
    has_entry bytes found.0 fits (omega (arith, within)) (omega (arith, within, length-drop 4 bytes)) found.1

-- which its bytes encode
pub entry_item : (bytes spelling : List ℕ) → spells_item bytes ≡ true → spelling ≡ text_in bytes → IsSome (item_in spelling)
entry_item bytes spelling h is =
    let found = some_from (item_in (text_in bytes)) (entry_told bytes h).1 in
    subst (λ (item : Option ItemState). IsSome item) (sym (ap item_in is ∙ found.1)) refl

-- of a page of items
pub entries_told : (bytes : List ℕ) → has_items bytes ≡ true → spells_items (leading_number bytes) (drop 4 bytes) ≡ true
unfolding has_items
entries_told bytes h = h

-- so many of these entries stand in front of the bytes, and of as many as are left it is known that they spell items
pub record AreKnown (bytes ends : List ℕ) (whole count size : ℕ) : Type 0 where
  pub entries : HasEntries bytes ends count size
  pub left : spells_items (whole - count) (drop size bytes) ≡ true

pub none_known : (bytes : List ℕ) (whole : ℕ) → spells_items whole bytes ≡ true → AreKnown bytes [] whole 0 0
none_known bytes whole h = record {
  entries = no_entries bytes;
  left = let all : whole - 0 ≡ whole = omega arith in ap (λ k. spells_items k bytes) all ∙ h;
}

pub left_parts : (whole count : ℕ) (bytes : List ℕ) → count < whole → spells_items (whole - count) bytes ≡ true → (spells_item bytes ≡ true) × (spells_items (whole - (count + 1)) (drop (4 + leading_number bytes) bytes) ≡ true)
left_parts whole count bytes within h =
    let one : whole - count ≡ suc (whole - (count + 1)) = omega arith in
    and_parts (spells_item bytes) (spells_items (whole - (count + 1)) (drop (4 + leading_number bytes) bytes)) (ap (λ k. spells_items k bytes) (sym one) ∙ h)

-- the next one is known to spell an item
pub next_known : (bytes ends : List ℕ) (whole count size : ℕ) → AreKnown bytes ends whole count size → count < whole → spells_item (drop size bytes) ≡ true
next_known bytes ends whole count size h within = (left_parts whole count (drop size bytes) within h.left).0

pub more_known : (bytes ends : List ℕ) (whole count size len : ℕ) → AreKnown bytes ends whole count size → count < whole → HasEntry (drop size bytes) len → len ≡ 4 + leading_number (drop size bytes)
    → AreKnown bytes (ends ++ (size + len) ∷ []) whole (count + 1) (size + len)
more_known bytes ends whole count size len h within entry is = record {
  entries = one_more bytes ends count size len h.entries entry;
  left =
      let behind : drop (size + len) bytes ≡ drop (4 + leading_number (drop size bytes)) (drop size bytes) = sym (drop-drop len size bytes) ∙ ap (λ k. drop k (drop size bytes)) is in
      ap (spells_items (whole - (count + 1))) behind ∙ (left_parts whole count (drop size bytes) within h.left).1;
}

-- where none is left, only zeros are
pub zeros_known : (bytes ends : List ℕ) (whole count size : ℕ) → AreKnown bytes ends whole count size → whole ≤ count → list_all is_zero (drop size bytes) ≡ true
zeros_known bytes ends whole count size h past =
    let none : 0 ≡ whole - count = omega arith in
    ap (λ k. spells_items k (drop size bytes)) none ∙ h.left

-- ---- what is written

-- the entry of an item spells it
written_entry : (item : ItemState) (rest : List ℕ) → Spells (encoded item) item
    → (spells_item (entry_of item ++ rest) ≡ true) × (drop (4 + leading_number (entry_of item ++ rest)) (entry_of item ++ rest) ≡ rest)
unfolding spells_item
written_entry item rest s =
    let text : List ℕ = encoded item in
    let bytes : List ℕ = entry_of item ++ rest in
    let parts : bytes ≡ encoded_count (length text) ++ (text ++ rest) = entry_parts item rest in
    let number : leading_number bytes ≡ length text = ap leading_number parts ∙ number_back (length text) (text ++ rest) (omega (arith, s.few)) in
    let behind : drop 4 bytes ≡ text ++ rest = ap (drop 4) parts ∙ behind_number (length text) (text ++ rest) in
    let front : text_in bytes ≡ text = ap (λ k. take k (drop 4 bytes)) number ∙ ap (take (length text)) behind ∙ take_at text rest (length text) refl in
    let back : drop (4 + leading_number bytes) bytes ≡ rest =
    ap (λ k. drop (4 + k) bytes) number ∙ sym (drop-drop (length text) 4 bytes) ∙ ap (drop (length text)) behind ∙ drop_at text rest (length text) refl
    in
    let some : is_some (item_in (text_in bytes)) ≡ true = ap (λ bs. is_some (item_in bs)) front ∙ ap is_some (item_in-spelled text item s) in
    let room : 4 + leading_number bytes ≤ length bytes = omega (arith, number, length-append (entry_of item) rest, length-entry item) in
    let enough : nat_le (4 + leading_number bytes) (length bytes) ≡ true = grind (arith, nat_tests) in
    (ap (λ b. b && is_some (item_in (text_in bytes))) enough ∙ some, back)

no_entries_written : (rest : List ℕ) → list_all is_zero rest ≡ true → spells_items 0 (entries_of [] ++ rest) ≡ true
unfolding entries_of
no_entries_written rest zeros = zeros

written_entries : (items : List ItemState) (rest : List ℕ) → AreStorable items → list_all is_zero rest ≡ true → spells_items (length items) (entries_of items ++ rest) ≡ true
written_entries [] rest h zeros = no_entries_written rest zeros
written_entries (item ∷ items) rest h zeros =
    let bytes : List ℕ = entry_of item ++ (entries_of items ++ rest) in
    let parts : entries_of (item ∷ items) ++ rest ≡ bytes = ap (λ bs. bs ++ rest) (entries_of-cons item items) ∙ append_assoc (entry_of item) (entries_of items) rest in
    let one = written_entry item (entries_of items ++ rest) h.0 in
    ap (spells_items (suc (length items))) parts
    ∙ ap (λ b. b && spells_items (length items) (drop (4 + leading_number bytes) bytes)) one.0
    ∙ ap (spells_items (length items)) one.1 ∙ written_entries items rest h.1 zeros

-- the page of items is known to be one
has_items-spelled : (room : ℕ) (items : List ItemState) → length items < 2 ^ 32 → AreStorable items → has_items (page_spelling room items) ≡ true
unfolding has_items
has_items-spelled room items few h =
    let zeros : List ℕ = replicate (room - size_of items) 0 in
    let parts = page_parts room items in
    let number : leading_number (page_spelling room items) ≡ length items = ap leading_number parts ∙ number_back (length items) (entries_of items ++ zeros) few in
    let behind : drop 4 (page_spelling room items) ≡ entries_of items ++ zeros = ap (drop 4) parts ∙ behind_number (length items) (entries_of items ++ zeros) in
    (λ k. spells_items (number k) (behind k)) ∙ written_entries items zeros h (all_zeros (room - size_of items))

pub has_items-page : (bytes : List ℕ) (items : List ItemState) → IsPage bytes items → has_items bytes ≡ true
unfolding has_items
has_items-page bytes items page =
    let read = page_read bytes items page in
    (λ k. spells_items (read.0 k) (read.1 k)) ∙ written_entries items _ page.fit.storable (all_zeros (length bytes - 4 - size_of items))

pub known_page : (pages : Pages) (n : ℕ) (items : List ItemState) → IsPage (page_at pages n) items → (bytes : List ℕ) → pages n ≡ Some bytes → has_items bytes ≡ true
known_page pages n items h bytes is = subst (λ (bs : List ℕ). has_items bs ≡ true) (ap (λ o. unwrap_or o []) is) (has_items-page (page_at pages n) items h)

-- ---- of what kind the pages of items are

pub kind_of_many : (n : ℕ) → 0 < n → kind_for n ≡ Bytes
kind_of_many zero some = absurd (omega arith)
kind_of_many (suc n) some = refl

pub kind_of_none : (n : ℕ) → n ≡ 0 → kind_for n ≡ Items
kind_of_none n is = ap kind_for is

pub kind_fits : (items : List ItemState) (n at : ℕ) (page : List ℕ) (kind : PageKind) → kind ≡ kind_for n → n ≡ overflow_of items → at < length (pages_of items)
    → page ≡ get_or (pages_of items) at [] → AreStorable items → FitAlone items → is_of kind page ≡ true
kind_fits items n at page kind is many within there storable alone = by_cases (fit_one items) refl where
  by_cases : (b : Bool) → fit_one items ≡ b → is_of kind page ≡ true
  by_cases true h =
      let first : at ≡ 0 = omega (arith, within, ap length (pages-one items h)) in
      let own : page ≡ page_spelling MAX_ENTRY_BYTES items = there ∙ (λ k. get_or (pages-one items h k) (first k) []) ∙ ap joined_pages (sym (pages-one items h)) ∙ joined_pages-one items h in
      let few : length items < 2 ^ 32 = let most = few_items items h in omega (arith, most) in
      let whole : kind ≡ Items = is ∙ kind_of_none n (many ∙ overflow-one items h) in
      (λ k. is_of (whole k) (own k)) ∙ has_items-spelled MAX_ENTRY_BYTES items few storable
  by_cases false h =
      let long = long_from items storable alone h in
      let any : kind ≡ Bytes = is ∙ kind_of_many n (omega (arith, many, long.some)) in
      ap (λ k. is_of k page) any

-- ---- pages that are kept no more

pub reads_forgotten : {P A B : Type 0} (g : Ghosts P) (fault : Fault) (p q r : P) → ReadsPages g (err_of A fault) p q → Evicts g q r → ReadsPages g (err_of B fault) p r
reads_forgotten g fault p q r h k = record {
  counts = k.counts ∙ h.counts;
  same = k.same ∙ h.same;
  pool = spends_freed_err g 0 fault p q r h.pool k.pool;
}

pub forgets_none : {P : Type 0} (g : Ghosts P) (p : P) → Evicts g p p
forgets_none g p = record { counts = refl; same = refl; pool = spares_none g p }

pub forgets_more : {P : Type 0} (g : Ghosts P) (p q r : P) → Evicts g p q → g.counts r ≡ g.counts q → g.pages r ≡ g.pages q
    → pools.SparesNumbers g.room g.failures g.cache_size g.honest q r → Evicts g p r
forgets_more g p q r h counts same pool = record {
  counts = counts ∙ h.counts;
  same = same ∙ h.same;
  pool = spares_then g p q r h.pool (spares_from g q r pool);
}
