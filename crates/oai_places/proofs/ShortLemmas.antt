-- Items that stand on one page, and parts of them.
use Rattle.std.proofs.Common.{◌≡◌, ◌∙◌, ◌&&◌, ◌+◌, ◌*◌, ◌<◌, ◌≤◌, inl, inr, leb, ltb, not, suc, zero, ℕ, Bool, true, false, List, [], ◌∷◌, ◌++◌, length, take, drop, get_or, pos, refl, sym, ap, arith, length-append, length-drop}
use Rattle.std.proofs.lemmas.Bool.{and_from, and_parts, cases_lt, false≢true, leb-true, le-leb, ltb-false, ltb-true}
use Rattle.std.proofs.lemmas.List.{drop-drop, drop_at, length-take-le, take-append-drop, take_all, take_at, take_more}
use Rattle.std.proofs.lemmas.List.Folds.{list_all-append}
use Rattle.std.specs.List.{list_all}
use Rattle.oai_item.specs.Encoding.{encoded}
use Rattle.oai_item.specs.Item.{ItemState}
use Rattle.oai_item.proofs.Around.{only_place}
use Rattle.oai_places.specs.Pages.{AreCuts, FitAlone, are_short, between, fit_one, size_of}
use Rattle.oai_places.specs.declared.sizes.TheConstants.{MAX_ENTRY_BYTES, MAX_WHOLE_BYTES}
use Rattle.oai_places.proofs.BetweenLemmas.{between-first}
use Rattle.oai_places.proofs.EntryLemmas.{size_of-append, size_of-between, size_of-cut, size_of-more, size_of-one}
use Rattle.oai_places.proofs.PageLemmas.{length-entry, size_of-cons, size_of-nil}

-- ---- short spellings

abbrev is_short : ItemState → Bool
is_short item = leb (length (encoded item)) MAX_WHOLE_BYTES

pub short-both : (a b : List ItemState) → are_short a ≡ true → are_short b ≡ true → are_short (a ++ b) ≡ true
unfolding are_short
short-both a b h k = list_all-append is_short a b ∙ and_from (list_all is_short a) (list_all is_short b) h k

pub short-parts : (a b : List ItemState) → are_short (a ++ b) ≡ true → (are_short a ≡ true) × (are_short b ≡ true)
unfolding are_short
short-parts a b h = and_parts (list_all is_short a) (list_all is_short b) (sym (list_all-append is_short a b) ∙ h)

pub short-take : (n : ℕ) (items : List ItemState) → are_short items ≡ true → are_short (take n items) ≡ true
short-take n items h = (short-parts (take n items) (drop n items) (ap are_short (take-append-drop n items) ∙ h)).0

pub short-drop : (n : ℕ) (items : List ItemState) → are_short items ≡ true → are_short (drop n items) ≡ true
short-drop n items h = (short-parts (take n items) (drop n items) (ap are_short (take-append-drop n items) ∙ h)).1

pub short-between : (from to : ℕ) (items : List ItemState) → are_short items ≡ true → are_short (between from to items) ≡ true
unfolding between
short-between from to items h = short-drop from (take to items) (short-take to items h)

pub short-cons : (item : ItemState) (items : List ItemState) → length (encoded item) ≤ MAX_WHOLE_BYTES → are_short items ≡ true → are_short (item ∷ items) ≡ true
unfolding are_short
short-cons item items fits h = and_from (is_short item) (list_all is_short items) (le-leb (length (encoded item)) MAX_WHOLE_BYTES fits) h

pub short-nil : are_short [] ≡ true
unfolding are_short
short-nil = refl

pub short-first : (item : ItemState) (items : List ItemState) → are_short (item ∷ items) ≡ true → length (encoded item) ≤ MAX_WHOLE_BYTES
unfolding are_short
short-first item items h = leb-true (length (encoded item)) MAX_WHOLE_BYTES (and_parts (is_short item) (list_all is_short items) h).0

pub short_at : (items : List ItemState) (at : ℕ) (d : ItemState) → are_short items ≡ true → at < length items → length (encoded (get_or items at d)) ≤ MAX_WHOLE_BYTES
unfolding are_short
short_at [] at d h within = absurd (omega arith)
short_at (item ∷ items) zero d h within = short-first item items h
short_at (item ∷ items) (suc at) d h within = short_at items at d (and_parts (is_short item) (list_all is_short items) h).1 (omega arith)

-- ---- items on one page

pub fit_parts : (items : List ItemState) → fit_one items ≡ true → (size_of items ≤ MAX_ENTRY_BYTES) × (are_short items ≡ true)
unfolding fit_one
fit_parts items h =
    let parts = and_parts (leb (size_of items) MAX_ENTRY_BYTES) (are_short items) h in
    (leb-true (size_of items) MAX_ENTRY_BYTES parts.0, parts.1)

pub fit_from : (items : List ItemState) → size_of items ≤ MAX_ENTRY_BYTES → are_short items ≡ true → fit_one items ≡ true
unfolding fit_one
fit_from items fits short = and_from (leb (size_of items) MAX_ENTRY_BYTES) (are_short items) (le-leb (size_of items) MAX_ENTRY_BYTES fits) short

pub fit-nil : fit_one [] ≡ true
fit-nil = fit_from [] (omega (arith, size_of-nil)) short-nil

pub fit-take : (n : ℕ) (items : List ItemState) → fit_one items ≡ true → fit_one (take n items) ≡ true
fit-take n items h =
    let parts = fit_parts items h in
    fit_from (take n items) (omega (arith, parts.0, size_of-cut items n)) (short-take n items parts.1)

pub fit-drop : (n : ℕ) (items : List ItemState) → fit_one items ≡ true → fit_one (drop n items) ≡ true
fit-drop n items h =
    let parts = fit_parts items h in
    fit_from (drop n items) (omega (arith, parts.0, size_of-cut items n)) (short-drop n items parts.1)

pub fit-without : (at : ℕ) (items : List ItemState) → fit_one items ≡ true → fit_one (take at items ++ drop (at + 1) items) ≡ true
fit-without at items h =
    let parts = fit_parts items h in
    fit_from (take at items ++ drop (at + 1) items)
    (omega (
      arith,
      parts.0,
      size_of-append (take at items) (drop (at + 1) items),
      size_of-cut items (at + 1),
      size_of-between items at (at + 1) (omega arith),
    ))
    (short-both (take at items) (drop (at + 1) items) (short-take at items parts.1) (short-drop (at + 1) items parts.1))

-- one entry has room on a page
pub one_fits : (items : List ItemState) (from : ℕ) → are_short items ≡ true → from < length items → size_of (between from (from + 1) items) ≤ MAX_ENTRY_BYTES
one_fits items from short within =
    let d : ItemState = only_place (pos 0) [] in
    omega (arith, size_of-between items from (from + 1) (omega arith), size_of-more items from d within, short_at items from d short within)

-- one item stands on one page just where its spelling is short
pub fit_single : (item : ItemState) (long : Bool) → long ≡ ltb MAX_WHOLE_BYTES (length (encoded item)) → fit_one (item ∷ []) ≡ not long
fit_single item true is =
    let more = ltb-true MAX_WHOLE_BYTES (length (encoded item)) (sym is) in
    no_fit (fit_one (item ∷ [])) refl where
      no_fit : (b : Bool) → fit_one (item ∷ []) ≡ b → b ≡ false
      no_fit true e = absurd (omega (arith, ltb-true MAX_WHOLE_BYTES (length (encoded item)) (sym is), short-first item [] (fit_parts (item ∷ []) e).1))
      no_fit false e = refl
fit_single item false is =
    let less = ltb-false MAX_WHOLE_BYTES (length (encoded item)) (sym is) in
    fit_from (item ∷ []) (omega (arith, less, size_of-one item)) (short-cons item [] less short-nil)

pub long_single : (item : ItemState) → fit_one (item ∷ []) ≡ false → MAX_WHOLE_BYTES < length (encoded item)
long_single item h =
    elim (cases_lt MAX_WHOLE_BYTES (length (encoded item))) [
      | inl more ↦ more
      | inr less ↦ absurd (false≢true (sym h ∙ fit_from (item ∷ []) (omega (arith, less, size_of-one item)) (short-cons item [] less short-nil)))
    ]

-- items on one page, or one item: on one page just where the first is short
pub fit_alone : (items others : List ItemState) (item : ItemState) (long : Bool) → items ≡ item ∷ others → FitAlone items → long ≡ ltb MAX_WHOLE_BYTES (length (encoded item)) → fit_one items ≡ not long
fit_alone items others item true e (inl fits) is =
    absurd (omega (arith, ltb-true MAX_WHOLE_BYTES (length (encoded item)) (sym is), short-first item others (fit_parts (item ∷ others) (ap fit_one (sym e) ∙ fits)).1))
fit_alone items others item false e (inl fits) is = fits
fit_alone items [] item long e (inr one) is = ap fit_one e ∙ fit_single item long is
fit_alone items (x ∷ others) item long e (inr one) is = absurd (omega (arith, one, ap length e))

-- ---- one after the other

pub short_more : (items : List ItemState) (at : ℕ) (d : ItemState) → at < length items → are_short (take at items) ≡ true
    → false ≡ ltb MAX_WHOLE_BYTES (length (encoded (get_or items at d))) → are_short (take (at + 1) items) ≡ true
short_more items at d within so_far is =
    let item : ItemState = get_or items at d in
    ap are_short (take_more items at d within)
    ∙ short-both (take at items) (item ∷ []) so_far (short-cons item [] (ltb-false MAX_WHOLE_BYTES (length (encoded item)) (sym is)) short-nil)

pub not_short : (items : List ItemState) (at : ℕ) (d : ItemState) → at < length items → true ≡ ltb MAX_WHOLE_BYTES (length (encoded (get_or items at d))) → are_short items ≡ false
not_short items at d within is = by_cases (are_short items) refl where
  by_cases : (b : Bool) → are_short items ≡ b → b ≡ false
  by_cases true h = absurd (omega (arith, short_at items at d h within, ltb-true MAX_WHOLE_BYTES (length (encoded (get_or items at d))) (sym is)))
  by_cases false h = refl

-- items between two places, of which it was seen whether the first is long
pub fit_between : (from to : ℕ) (items : List ItemState) (d : ItemState) (seen long : Bool) → from < to → to ≤ length items → FitAlone (between from to items)
    → seen ≡ ltb MAX_WHOLE_BYTES (length (encoded (get_or items from d))) → seen ≡ long → fit_one (between from to items) ≡ not long
fit_between from to items d seen long below within alone is same =
    fit_alone (between from to items) (drop (from + 1) (take to items)) (get_or items from d) long (between-first from to items d below within) alone (sym same ∙ is)

-- ---- items on one page, with one more

at_put : (items made : List ItemState) (from to : ℕ) (item d : ItemState) → made ≡ take from items ++ (item ∷ drop to items) → from ≤ length items → get_or made from d ≡ item
at_put items made from to item d is within =
    let front : length (take from items) ≡ from = length-take-le from items within in
    ap (λ (xs : List ItemState). get_or xs from d) is ∙ get_or-behind (take from items) (item ∷ drop to items) from d front where
      get_or-behind : (a b : List ItemState) (n : ℕ) (d : ItemState) → length a ≡ n → get_or (a ++ b) n d ≡ get_or b 0 d
      get_or-behind [] b n d is = ap (λ k. get_or b k d) (sym is)
      get_or-behind (x ∷ a) b zero d is = absurd (omega (arith, is))
      get_or-behind (x ∷ a) b (suc n) d is = get_or-behind a b n d (omega (arith, is))

short_put : (items made : List ItemState) (from to : ℕ) (item d : ItemState) → made ≡ take from items ++ (item ∷ drop to items) → from ≤ length items
    → false ≡ ltb MAX_WHOLE_BYTES (length (encoded (get_or made from d))) → length (encoded item) ≤ MAX_WHOLE_BYTES
short_put items made from to item d is within short =
    ltb-false MAX_WHOLE_BYTES (length (encoded item)) (sym (short ∙ ap (λ (x : ItemState). ltb MAX_WHOLE_BYTES (length (encoded x))) (at_put items made from to item d is within)))

pub size_of-with : (items made : List ItemState) (from to : ℕ) (item d : ItemState) → made ≡ take from items ++ (item ∷ drop to items) → from ≤ to → to ≤ length items → fit_one items ≡ true
    → false ≡ ltb MAX_WHOLE_BYTES (length (encoded (get_or made from d))) → size_of made ≤ 2 * MAX_ENTRY_BYTES
size_of-with items made from to item d is order within fits short =
    omega (
      arith,
      short_put items made from to item d is (omega (arith, order, within)) short,
      (fit_parts items fits).0,
      ap size_of is,
      size_of-append (take from items) (item ∷ drop to items),
      size_of-cons item (drop to items),
      length-entry item,
      size_of-cut items to,
      size_of-between items from to order,
    )

pub short-with : (items made : List ItemState) (from to : ℕ) (item d : ItemState) → made ≡ take from items ++ (item ∷ drop to items) → to ≤ length items → from ≤ to → fit_one items ≡ true
    → false ≡ ltb MAX_WHOLE_BYTES (length (encoded (get_or made from d))) → are_short made ≡ true
short-with items made from to item d is within order fits short =
    let all = (fit_parts items fits).1 in
    ap are_short is
    ∙ short-both (take from items) (item ∷ drop to items) (short-take from items all)
    (short-cons item (drop to items) (short_put items made from to item d is (omega (arith, order, within)) short) (short-drop to items all))

pub length-with : (items made : List ItemState) (from to : ℕ) (item : ItemState) → made ≡ take from items ++ (item ∷ drop to items) → from ≤ to → to ≤ length items → from + 1 ≤ length made
length-with items made from to item is order within =
    omega (arith, ap length is, length-append (take from items) (item ∷ drop to items), length-take-le from items (omega (arith, order, within)))

-- cut around a long one
pub cuts_around : (items made : List ItemState) (from to : ℕ) (item d : ItemState) → made ≡ take from items ++ (item ∷ drop to items) → from ≤ to → to ≤ length items → fit_one items ≡ true
    → true ≡ ltb MAX_WHOLE_BYTES (length (encoded (get_or made from d))) → AreCuts made from (from + 1)
unfolding between
cuts_around items made from to item d is order within fits long =
    let front : List ItemState = take from items in
    let behind : List ItemState = drop to items in
    let at : length front ≡ from = length-take-le from items (omega (arith, order, within)) in
    let more : length made ≡ length front + (1 + length behind) = omega (arith, ap length is, length-append front (item ∷ behind)) in
    let first : take from made ≡ front = ap (take from) is ∙ take_at front (item ∷ behind) from at in
    let rest : drop from made ≡ item ∷ behind = ap (drop from) is ∙ drop_at front (item ∷ behind) from at in
    let last : drop (from + 1) (take (length made) made) ≡ behind =
    ap (drop (from + 1)) (take_all (length made) made (omega arith)) ∙ sym (drop-drop 1 from made) ∙ ap (drop 1) rest in
    let one : length (drop from (take (from + 1) made)) ≡ 1 =
    omega (arith, length-drop from (take (from + 1) made), length-take-le (from + 1) made (omega (arith, more, at))) in
    record {
      first_below = omega arith;
      second_below = omega (arith, more, at);
      one = ap fit_one first ∙ fit-take from items fits;
      two = inr one;
      three = ap fit_one last ∙ fit-drop to items fits;
      whole = λ all. absurd (false≢true (sym (not_short made from d (omega (arith, more, at)) long) ∙ (fit_parts made all).1));
    }

-- ---- a test of both

pub fit_then : (items : List ItemState) (size : ℕ) (short : Bool) → size ≡ size_of items → size ≤ MAX_ENTRY_BYTES → short ≡ are_short items → short ≡ fit_one items
unfolding fit_one
fit_then items size short is fits seen =
    let all : leb (size_of items) MAX_ENTRY_BYTES ≡ true = le-leb (size_of items) MAX_ENTRY_BYTES (omega (arith, is, fits)) in
    seen ∙ sym (ap (λ b. b && are_short items) all)

pub fit_else : (items : List ItemState) (size : ℕ) → size ≡ size_of items → leb size MAX_ENTRY_BYTES ≡ false → leb size MAX_ENTRY_BYTES ≡ fit_one items
unfolding fit_one
fit_else items size is more =
    let none : leb (size_of items) MAX_ENTRY_BYTES ≡ false = ap (λ n. leb n MAX_ENTRY_BYTES) (sym is) ∙ more in
    more ∙ sym (ap (λ b. b && are_short items) none)
