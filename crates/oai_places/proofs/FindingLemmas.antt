-- An item that is looked for on a page, entry by entry.
use Rattle.std.proofs.Common.{◌≡◌, ◌∙◌, ◌+◌, ◌-◌, ◌^◌, ◌<◌, ℕ, ℤ, true, false, List, [], ◌∷◌, ◌++◌, Option, None, Some, Result, Ok, Err, IfOk, length, take, drop, refl, subst, sym, ap, arith, append_assoc, length-append}
use Rattle.std.proofs.Common.{int_eq}
use Rattle.std.specs.Prelude.{Bool, replicate}
use Rattle.std.proofs.lemmas.Bool.{and_right, cond-true, cond-false, false≢true}
use Rattle.std.proofs.lemmas.List.{drop-drop, drop_at, take_at}
use Rattle.std.proofs.lemmas.Option.{same_Some}
use Rattle.oai_item.specs.Decoding.{item_in}
use Rattle.oai_item.specs.Encoding.{Spells, encoded, encoded_count, encoded_text}
use Rattle.oai_item.specs.Item.{ItemState}
use Rattle.oai_item.specs.Items.{is_at, is_named, item_at}
use Rattle.oai_item.specs.declared.decodings.DecodeFault.{DecodeFault}
use Rattle.oai_item.specs.declared.decodings.DecodeFault.TheVariants.{Damaged, NoMemory}
use Rattle.oai_places.specs.Picking.{IsPicked}
use Rattle.oai_item.proofs.Decoded.{item_in-spelled}
use Rattle.oai_item.proofs.Lengths.{length-encoded_text}
use Rattle.oai_pool.specs.Kinds.{has_items, spells_item, spells_items}
use Rattle.oai_places.specs.Finding.{IsFinding, IsLeftToFind, IsSought, IsSoughtBehind}
use Rattle.oai_places.specs.Pages.{AreStorable, IsPage, begins_at, entries_of, entry_of, first_number, size_of}
use Rattle.oai_places.proofs.PageLemmas.{behind_number, entries_of-cons, number_back}
use Rattle.oai_places.proofs.ReadLemmas.{page_read}
use Rattle.oai_places.proofs.TestedLemmas.{entries_told, left_parts}

-- ---- an entry

-- an entry is a text
pub entry_text : (item : ItemState) → entry_of item ≡ encoded_text (encoded item)
unfolding entry_of
entry_text item = refl

text_parts : (text behind : List ℕ) → encoded_text text ++ behind ≡ encoded_count (length text) ++ (text ++ behind)
unfolding encoded_text
text_parts text behind = append_assoc (encoded_count (length text)) text behind

text_read : (bytes text behind : List ℕ) → length text < 2 ^ 32 → bytes ≡ encoded_text text ++ behind → (first_number bytes ≡ length text) × (drop 4 bytes ≡ text ++ behind)
text_read bytes text behind few e =
    let parts : bytes ≡ encoded_count (length text) ++ (text ++ behind) = e ∙ text_parts text behind in (
      ap first_number parts ∙ number_back (length text) (text ++ behind) few,
      ap (drop 4) parts ∙ behind_number (length text) (text ++ behind),
    )

-- a text in front of bytes is parted after as many as its number says
pub parted : (bytes rest text behind : List ℕ) (n : ℕ) → length text < 2 ^ 32 → bytes ≡ encoded_text text ++ behind → n ≡ first_number bytes → rest ≡ drop 4 bytes
    → (take n rest ≡ text) × (drop n rest ≡ behind)
parted bytes rest text behind n few e number tail =
    let read = text_read bytes text behind few e in
    let len : n ≡ length text = number ∙ read.0 in
    let back : rest ≡ text ++ behind = tail ∙ read.1 in (
      (λ k. take (len k) (back k)) ∙ take_at text behind (length text) refl,
      (λ k. drop (len k) (back k)) ∙ drop_at text behind (length text) refl,
    )

-- there is none in fewer than four bytes, nor in fewer than are said to follow
pub no_text_number : (bytes text behind : List ℕ) → length bytes < 4 → bytes ≡ encoded_text text ++ behind → ⊥
no_text_number bytes text behind short e = omega (arith, short, ap length e, length-append (encoded_text text) behind, length-encoded_text text)

pub no_text_room : (bytes text behind : List ℕ) → length (drop 4 bytes) < first_number bytes → length text < 2 ^ 32 → bytes ≡ encoded_text text ++ behind → ⊥
no_text_room bytes text behind short few e =
    let read = text_read bytes text behind few e in
    omega (arith, short, read.0, ap length read.1, length-append text behind)

-- the item of the entry at the start of bytes is the one whose entry that is
pub entry_is : (bytes : List ℕ) (item read : ItemState) (behind : List ℕ) → Spells (encoded item) item → bytes ≡ entry_of item ++ behind → item_in (take (first_number bytes) (drop 4 bytes)) ≡ Some read
    → read ≡ item
entry_is bytes item read behind s e told =
    let both = parted bytes (drop 4 bytes) (encoded item) behind (first_number bytes) (omega (arith, s.few)) (e ∙ ap (λ bs. bs ++ behind) (entry_text item)) refl refl in
    same_Some _ _ (sym told ∙ ap item_in both.0 ∙ item_in-spelled (encoded item) item s)

-- and behind it is what is behind that entry
pub entry_behind : (bytes : List ℕ) (item : ItemState) (behind : List ℕ) → Spells (encoded item) item → bytes ≡ entry_of item ++ behind → drop (4 + first_number bytes) bytes ≡ behind
entry_behind bytes item behind s e =
    let both = parted bytes (drop 4 bytes) (encoded item) behind (first_number bytes) (omega (arith, s.few)) (e ∙ ap (λ bs. bs ++ behind) (entry_text item)) refl refl in
    sym (drop-drop (first_number bytes) 4 bytes) ∙ both.1

-- where what is found is this
pub found_is : {E : Type 0} (found other : Option ItemState) (result : Result (Option ItemState) E) → IfOk result (λ f. f ≡ found) → found ≡ other → IfOk result (λ f. f ≡ other)
found_is found other (Ok f) h e = h ∙ e
found_is found other (Err cause) h e = h

-- the bytes that are the item's spell it
pub spelled_here : (bytes : List ℕ) (item : ItemState) → bytes ≡ encoded item → Spells (encoded item) item → Spells bytes item
spelled_here bytes item e s = subst (λ (bs : List ℕ). Spells bs item) (sym e) s

-- an item at a key has its identifier
pub named_not : (stamp : ℤ) (identifier : List ℕ) (item : ItemState) → is_at stamp identifier item ≡ true → is_named identifier item ≡ false → ⊥
named_not stamp identifier item at other = false≢true (sym (and_right (int_eq item.stamp stamp) (is_named identifier item) other) ∙ at)

-- an item that could not be picked could not be found
pub finding_fails : (stamp : ℤ) (identifier : List ℕ) (items : List ItemState) (p : ItemState → Bool) (item : ItemState) (fault : DecodeFault) → IsPicked p item (Err fault) → IsFinding stamp identifier items (Err fault)
finding_fails stamp identifier items p item Damaged h = h
finding_fails stamp identifier items p item NoMemory h = h

-- ---- what is left

-- before the first entry all are left
pub all_left : (stamp : ℤ) (identifier page rest : List ℕ) → rest ≡ drop 4 page → IsSoughtBehind stamp identifier page 0 rest
all_left stamp identifier page rest e items left is_page many =
    let read = page_read page items is_page in
    record {
      later = items;
      behind = replicate (length page - 4 - size_of items) 0;
      found = refl;
      many = omega (arith, many);
      parts = e ∙ read.1;
      storable = is_page.fit.storable;
    }

-- the first item of those that are left: it is the one that is looked for, or that is among the others
pub record HasFirst (stamp : ℤ) (identifier : List ℕ) (items : List ItemState) (left : ℕ) (rest : List ℕ) : Type 0 where
  pub item : ItemState
  pub behind : List ℕ
  pub spelled : Spells (encoded item) item
  pub parts : rest ≡ entry_of item ++ behind
  pub here : is_at stamp identifier item ≡ true → item_at stamp identifier items ≡ Some item
  pub later : is_at stamp identifier item ≡ false → IsLeftToFind stamp identifier items left behind

first_of : (stamp : ℤ) (identifier : List ℕ) (items : List ItemState) (left : ℕ) (rest : List ℕ) (later : List ItemState) (behind : List ℕ) → item_at stamp identifier later ≡ item_at stamp identifier items
    → length later ≡ left + 1 → rest ≡ entries_of later ++ behind → AreStorable later → HasFirst stamp identifier items left rest
unfolding item_at
first_of stamp identifier items left rest [] behind found many parts storable = absurd (omega (arith, many))
first_of stamp identifier items left rest (item ∷ more) behind found many parts storable = record {
  item = item;
  behind = entries_of more ++ behind;
  spelled = storable.0;
  parts = parts ∙ ap (λ bs. bs ++ behind) (entries_of-cons item more) ∙ append_assoc (entry_of item) (entries_of more) behind;
  here = λ h. sym found ∙ cond-true (is_at stamp identifier item) (Some item) (item_at stamp identifier more) h;
  later = λ h. record {
    later = more;
    behind = behind;
    found = sym (cond-false (is_at stamp identifier item) (Some item) (item_at stamp identifier more) h) ∙ found;
    many = omega (arith, many);
    parts = refl;
    storable = storable.1;
  };
}

pub first_left : (stamp : ℤ) (identifier : List ℕ) (items : List ItemState) (left : ℕ) (rest : List ℕ) → IsLeftToFind stamp identifier items (left + 1) rest → HasFirst stamp identifier items left rest
first_left stamp identifier items left rest l = first_of stamp identifier items left rest l.later l.behind l.found l.many l.parts l.storable

-- behind fewer entries than there are
pub first_seen : (stamp : ℤ) (identifier page rest : List ℕ) (passed : ℕ) (items : List ItemState) (left : ℕ) → IsSoughtBehind stamp identifier page passed rest → IsPage page items → left + (passed + 1) ≡ length items
    → HasFirst stamp identifier items left rest
first_seen stamp identifier page rest passed items left sought is_page many = first_left stamp identifier items left rest (sought items (left + 1) is_page (omega (arith, many)))

-- so many are left behind those that were passed
pub left_behind : (page : List ℕ) (passed : ℕ) (items : List ItemState) → IsPage page items → passed < first_number page → (length items - (passed + 1)) + (passed + 1) ≡ length items
left_behind page passed items is_page below = omega (arith, below, (page_read page items is_page).0)

known_whole : (page rest : List ℕ) → has_items page ≡ true → rest ≡ drop 4 page → spells_items (first_number page - 0) rest ≡ true
known_whole page rest tested e =
    let all : first_number page - 0 ≡ first_number page = omega arith in (λ k. spells_items (all k) (e k)) ∙ entries_told page tested

pub known_none : (stamp : ℤ) (identifier page rest : List ℕ) → has_items page ≡ true → rest ≡ drop 4 page → IsSought stamp identifier page 0 rest
known_none stamp identifier page rest tested e = record { known = known_whole page rest tested e; sought = all_left stamp identifier page rest e }

-- the first one is known to encode an item
pub first_known : (page rest : List ℕ) → has_items page ≡ true → rest ≡ drop 4 page → 0 < first_number page → spells_item rest ≡ true
first_known page rest tested e some = (left_parts (first_number page) 0 rest some (known_whole page rest tested e)).0

pub all_passed : (page : List ℕ) (passed : ℕ) (items : List ItemState) → IsPage page items → passed ≡ first_number page → 0 + passed ≡ length items
all_passed page passed items is_page e = omega (arith, e, (page_read page items is_page).0)

-- where none is left, it is none
none_of : (stamp : ℤ) (identifier : List ℕ) (items later : List ItemState) → item_at stamp identifier later ≡ item_at stamp identifier items → length later ≡ 0 → None ≡ item_at stamp identifier items
unfolding item_at
none_of stamp identifier items [] found none = found
none_of stamp identifier items (item ∷ later) found none = absurd (omega (arith, none))

pub none_left : (stamp : ℤ) (identifier : List ℕ) (items : List ItemState) (rest : List ℕ) → IsLeftToFind stamp identifier items 0 rest → None ≡ item_at stamp identifier items
none_left stamp identifier items rest l = none_of stamp identifier items l.later l.found l.many

-- ---- the first item of a page

pub record HasFirstEntry (page : List ℕ) (items : List ItemState) : Type 0 where
  pub item : ItemState
  pub behind : List ℕ
  pub spelled : Spells (encoded item) item
  pub parts : drop 4 page ≡ entry_of item ++ behind
  pub first : (stamp : ℤ) (identifier : List ℕ) → begins_at stamp identifier items ≡ is_at stamp identifier item

first_entry_of : (page : List ℕ) (items : List ItemState) (behind : List ℕ) → 0 < length items → AreStorable items → drop 4 page ≡ entries_of items ++ behind → HasFirstEntry page items
first_entry_of page [] behind some storable e = absurd (omega (arith, some))
first_entry_of page (item ∷ items) behind some storable e = record {
  item = item;
  behind = entries_of items ++ behind;
  spelled = storable.0;
  parts = e ∙ ap (λ bs. bs ++ behind) (entries_of-cons item items) ∙ append_assoc (entry_of item) (entries_of items) behind;
  first = λ stamp identifier. refl;
}

pub first_spelled : (page : List ℕ) (items : List ItemState) → IsPage page items → HasFirstEntry page items
first_spelled page items is_page =
    first_entry_of page items (replicate (length page - 4 - size_of items) 0) is_page.fit.some is_page.fit.storable (page_read page items is_page).1

-- a page of items has some
pub none_first : (page : List ℕ) (items : List ItemState) → IsPage page items → first_number page ≡ 0 → ⊥
none_first page items is_page none = omega (arith, none, is_page.fit.some, (page_read page items is_page).0)

pub begins_first : (stamp : ℤ) (identifier page : List ℕ) (items : List ItemState) (read : ItemState) → IsPage page items → item_in (take (first_number (drop 4 page)) (drop 4 (drop 4 page))) ≡ Some read
    → is_at stamp identifier read ≡ begins_at stamp identifier items
begins_first stamp identifier page items read is_page told =
    let first = first_spelled page items is_page in
    let is : read ≡ first.item = entry_is (drop 4 page) first.item read first.behind first.spelled first.parts told in
    ap (is_at stamp identifier) is ∙ sym (first.first stamp identifier)

-- the first item of a page is found by its key
pub first_is_found : (stamp : ℤ) (identifier : List ℕ) (items : List ItemState) → begins_at stamp identifier items ≡ true → None ≡ item_at stamp identifier items → ⊥
unfolding item_at
first_is_found stamp identifier [] begins none = false≢true begins
first_is_found stamp identifier (item ∷ items) begins none =
    let no : None ≡ Some item = none ∙ cond-true (is_at stamp identifier item) (Some item) (item_at stamp identifier items) begins in cc
