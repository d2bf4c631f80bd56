-- The pages of items, joined again: one page, or one and its overflow pages.
use Rattle.std.proofs.Common.{◌≡◌, ◌∙◌, ◌+◌, ◌-◌, ◌*◌, ◌/◌, ◌<◌, ◌≤◌, ◌==◌, if◌then◌else◌, inl, inr, ℕ, suc, zero, Bool, true, false, List, [], ◌∷◌, ◌++◌, length, take, drop, get_or, refl, sym, ap, subst, arith, append-nil, append_assoc, length-append, length-drop, min}
use Rattle.std.specs.Prelude.{map, replicate}
use Rattle.std.specs.List.{flat_map, list_all}
use Rattle.std.proofs.lemmas.Bool.{cases_lt, false≢true}
use Rattle.std.proofs.lemmas.List.{drop-drop, drop_all, drop_at, length-map, length-replicate, length-take-le, replicate-append-replicate, take-append-drop, take-append-le, take_all}
use Rattle.std.proofs.Math.Seq.{drop-append-add, take-append-add}
use Rattle.oai_device.specs.declared.devices.TheConstants.{PAGE_BYTES}
use Rattle.oai_item.specs.Encoding.{encoded, encoded_count}
use Rattle.oai_item.specs.Item.{ItemState}
use Rattle.oai_item.proofs.Lengths.{length-encoded_count}
use Rattle.oai_places.specs.Pages.{AreStorable, FitAlone, FitPage, IsPage, entries_of, filled, fit_one, joined_pages, overflow_of, page_spelling, pages_of, size_of, spread, written}
use Rattle.oai_places.specs.Places.{FitPages, Pages, bytes_on, page_at}
use Rattle.oai_places.specs.declared.sizes.TheConstants.{FRONT_BYTES, MAX_ENTRY_BYTES, MAX_OVERFLOW_PAGES, MAX_WHOLE_BYTES}
use Rattle.oai_places.proofs.EntryLemmas.{size_of-one}
use Rattle.oai_places.proofs.PageLemmas.{length-written, written_parts}
use Rattle.oai_places.proofs.ReadLemmas.{all_zeros}
use Rattle.oai_places.proofs.ShortLemmas.{fit_parts, long_single}

abbrev zeros : ℕ → List ℕ
zeros n = replicate n 0

length-zeros : (n : ℕ) → length (zeros n) ≡ n
length-zeros n = length-replicate n 0

two_zeros : (n m : ℕ) → zeros n ++ zeros m ≡ zeros (n + m)
two_zeros n m = replicate-append-replicate n m 0

no_bytes : (bytes : List ℕ) → length bytes ≤ 0 → bytes ≡ []
no_bytes [] h = refl
no_bytes (b ∷ bytes) h = absurd (omega arith)

-- ---- a page that is filled

-- ---- bytes on several pages

pub length-spread : (k : ℕ) (bytes : List ℕ) → length (spread k bytes) ≡ k
length-spread zero bytes = refl
length-spread (suc k) bytes = ap suc (length-spread k (drop PAGE_BYTES bytes))

pub spread_at : (k i : ℕ) (bytes d : List ℕ) → i < k → get_or (spread k bytes) i d ≡ filled (take PAGE_BYTES (drop (i * PAGE_BYTES) bytes))
spread_at zero i bytes d within = absurd (omega arith)
spread_at (suc k) zero bytes d within = refl
spread_at (suc k) (suc i) bytes d within =
    let behind : PAGE_BYTES + i * PAGE_BYTES ≡ suc i * PAGE_BYTES = omega arith in
    spread_at k i (drop PAGE_BYTES bytes) d (omega arith)
    ∙ ap (λ (bs : List ℕ). filled (take PAGE_BYTES bs)) (drop-drop (i * PAGE_BYTES) PAGE_BYTES bytes ∙ ap (λ n. drop n bytes) behind)

abbrev all_of : List (List ℕ) → List ℕ
all_of pages = flat_map (λ page. page) pages

none_spread : (k : ℕ) → all_of (spread k []) ≡ zeros (k * PAGE_BYTES)
unfolding filled
none_spread zero = refl
none_spread (suc k) =
    let sum : PAGE_BYTES + k * PAGE_BYTES ≡ suc k * PAGE_BYTES = omega arith in
    ap (λ (bs : List ℕ). zeros PAGE_BYTES ++ bs) (none_spread k) ∙ two_zeros PAGE_BYTES (k * PAGE_BYTES) ∙ ap zeros sum

-- one behind the other they are the bytes, and zeros behind them
pub spread_all : (k : ℕ) (bytes : List ℕ) → length bytes ≤ k * PAGE_BYTES → all_of (spread k bytes) ≡ bytes ++ zeros (k * PAGE_BYTES - length bytes)
unfolding filled
spread_all zero bytes fits =
    let none : bytes ≡ [] = no_bytes bytes (omega (arith, fits)) in
    rw none refl
spread_all (suc k) bytes fits =
    elim (cases_lt PAGE_BYTES (length bytes)) [
      | inl more ↦
          let front : length (take PAGE_BYTES bytes) ≡ PAGE_BYTES = length-take-le PAGE_BYTES bytes (omega (arith, more)) in
          let full : take PAGE_BYTES bytes ++ zeros (PAGE_BYTES - length (take PAGE_BYTES bytes)) ≡ take PAGE_BYTES bytes =
          ap (λ n. take PAGE_BYTES bytes ++ zeros (PAGE_BYTES - n)) front ∙ append-nil (take PAGE_BYTES bytes) in
          let rest = drop PAGE_BYTES bytes in
          let behind : all_of (spread k rest) ≡ rest ++ zeros (k * PAGE_BYTES - length rest) = spread_all k rest (omega (arith, fits, length-drop PAGE_BYTES bytes)) in
          let left : k * PAGE_BYTES - length rest ≡ suc k * PAGE_BYTES - length bytes = omega (arith, fits, length-drop PAGE_BYTES bytes, more) in
          (λ i. full i ++ behind i)
          ∙ sym (append_assoc (take PAGE_BYTES bytes) rest (zeros (k * PAGE_BYTES - length rest)))
          ∙ (λ i. take-append-drop PAGE_BYTES bytes i ++ zeros (left i))
      | inr less ↦
          let front : take PAGE_BYTES bytes ≡ bytes = take_all PAGE_BYTES bytes less in
          let none : drop PAGE_BYTES bytes ≡ [] = drop_all PAGE_BYTES bytes less in
          let behind : all_of (spread k (drop PAGE_BYTES bytes)) ≡ zeros (k * PAGE_BYTES) = ap (λ (bs : List ℕ). all_of (spread k bs)) none ∙ none_spread k in
          let sum : PAGE_BYTES - length bytes + k * PAGE_BYTES ≡ suc k * PAGE_BYTES - length bytes = omega (arith, less) in
          (λ i. (front i ++ zeros (PAGE_BYTES - length (front i))) ++ behind i)
          ∙ append_assoc bytes (zeros (PAGE_BYTES - length bytes)) (zeros (k * PAGE_BYTES))
          ∙ ap (λ (bs : List ℕ). bytes ++ bs) (two_zeros (PAGE_BYTES - length bytes) (k * PAGE_BYTES) ∙ ap zeros sum)
    ]

-- ---- the pages of items

pub pages-one : (items : List ItemState) → fit_one items ≡ true → pages_of items ≡ filled (written items) ∷ []
unfolding pages_of
pages-one items h =
    ap (λ b. if b then filled (written items) ∷ [] else filled (take FRONT_BYTES (written items)) ∷ spread (overflow_of items) (drop FRONT_BYTES (written items))) h

pub pages-long : (items : List ItemState) → fit_one items ≡ false
    → pages_of items ≡ filled (take FRONT_BYTES (written items)) ∷ spread (overflow_of items) (drop FRONT_BYTES (written items))
unfolding pages_of
pages-long items h =
    ap (λ b. if b then filled (written items) ∷ [] else filled (take FRONT_BYTES (written items)) ∷ spread (overflow_of items) (drop FRONT_BYTES (written items))) h

pub overflow-one : (items : List ItemState) → fit_one items ≡ true → overflow_of items ≡ 0
unfolding overflow_of
overflow-one items h = ap (λ b. if b then 0 else (size_of items + 4 - FRONT_BYTES + (PAGE_BYTES - 1)) / PAGE_BYTES) h

pub overflow-long : (items : List ItemState) → fit_one items ≡ false → overflow_of items ≡ (size_of items + 4 - FRONT_BYTES + (PAGE_BYTES - 1)) / PAGE_BYTES
unfolding overflow_of
overflow-long items h = ap (λ b. if b then 0 else (size_of items + 4 - FRONT_BYTES + (PAGE_BYTES - 1)) / PAGE_BYTES) h

pub length-pages : (items : List ItemState) → length (pages_of items) ≡ 1 + overflow_of items
length-pages items = by_cases (fit_one items) refl where
  by_cases : (b : Bool) → fit_one items ≡ b → length (pages_of items) ≡ 1 + overflow_of items
  by_cases true h = omega (arith, ap length (pages-one items h), overflow-one items h)
  by_cases false h = omega (arith, ap length (pages-long items h), length-spread (overflow_of items) (drop FRONT_BYTES (written items)))

-- what is so of one item that does not stand on one page
pub record IsLong (items : List ItemState) : Type 0 where
  pub low : MAX_WHOLE_BYTES + 4 < size_of items
  pub high : size_of items ≤ 1_048_580
  pub some : 0 < overflow_of items
  pub few : overflow_of items ≤ MAX_OVERFLOW_PAGES
  pub room : size_of items + 4 - FRONT_BYTES ≤ overflow_of items * PAGE_BYTES
  pub need : overflow_of items * PAGE_BYTES < size_of items + 4 - FRONT_BYTES + PAGE_BYTES

pub long_from : (items : List ItemState) → AreStorable items → FitAlone items → fit_one items ≡ false → IsLong items
long_from items storable (inl fits) h = absurd (false≢true (sym h ∙ fits))
long_from [] storable (inr one) h = absurd (omega (arith, one))
long_from (x ∷ y ∷ items) storable (inr one) h = absurd (omega (arith, one))
long_from (x ∷ []) storable (inr one) h =
    let size : size_of (x ∷ []) ≡ 4 + length (encoded x) = size_of-one x in
    let most = storable.0.few in
    let low : MAX_WHOLE_BYTES < length (encoded x) = long_single x h in
    let count = overflow-long (x ∷ []) h in
    record {
      low = omega (arith, size, low);
      high = omega (arith, size, most);
      some = omega (arith, size, low, count);
      few = omega (arith, size, most, count);
      room = omega (arith, size, low, count);
      need = omega (arith, size, low, count);
    }

-- ---- joined again

joined_pages-more : (page bytes : List ℕ) (k : ℕ) → 0 < k → joined_pages (page ∷ spread k bytes) ≡ take FRONT_BYTES page ++ all_of (spread k bytes)
joined_pages-more page bytes zero some = absurd (omega arith)
joined_pages-more page bytes (suc k) some = refl

front-filled : (bytes : List ℕ) → FRONT_BYTES ≤ length bytes → take FRONT_BYTES (filled (take FRONT_BYTES bytes)) ≡ take FRONT_BYTES bytes
unfolding filled
front-filled bytes long =
    let front : List ℕ = take FRONT_BYTES bytes in
    let len : length front ≡ FRONT_BYTES = length-take-le FRONT_BYTES bytes long in
    take-append-le FRONT_BYTES front (zeros (PAGE_BYTES - length front)) (omega (arith, len)) ∙ take_all FRONT_BYTES front (omega (arith, len))

pub joined_pages-one : (items : List ItemState) → fit_one items ≡ true → joined_pages (pages_of items) ≡ page_spelling MAX_ENTRY_BYTES items
unfolding page_spelling filled
joined_pages-one items h =
    let left : PAGE_BYTES - length (written items) ≡ MAX_ENTRY_BYTES - size_of items = omega (arith, length-written items) in
    ap joined_pages (pages-one items h) ∙ ap (λ n. written items ++ zeros n) left

pub joined_pages-long : (items : List ItemState) → fit_one items ≡ false → IsLong items
    → joined_pages (pages_of items) ≡ page_spelling (FRONT_BYTES - 4 + overflow_of items * PAGE_BYTES) items
unfolding page_spelling
joined_pages-long items h long =
    let k : ℕ = overflow_of items in
    let bytes : List ℕ = written items in
    let all : length bytes ≡ 4 + size_of items = length-written items in
    let rest : List ℕ = drop FRONT_BYTES bytes in
    let behind : length rest ≡ length bytes - FRONT_BYTES = length-drop FRONT_BYTES bytes in
    let front = front-filled bytes (omega (arith, all, long.low)) in
    let others = spread_all k rest (omega (arith, behind, all, long.room)) in
    let left : k * PAGE_BYTES - length rest ≡ FRONT_BYTES - 4 + k * PAGE_BYTES - size_of items = omega (arith, behind, all, long.low, long.room) in
    ap joined_pages (pages-long items h)
    ∙ joined_pages-more (filled (take FRONT_BYTES bytes)) rest k long.some
    ∙ (λ i. front i ++ others i)
    ∙ sym (append_assoc (take FRONT_BYTES bytes) rest (zeros (k * PAGE_BYTES - length rest)))
    ∙ (λ i. take-append-drop FRONT_BYTES bytes i ++ zeros (left i))

page_of_room : (bytes : List ℕ) (room : ℕ) (items : List ItemState) → size_of items ≤ room → bytes ≡ page_spelling room items → FitPage items → IsPage bytes items
unfolding page_spelling
page_of_room bytes room items fits is fit =
    let behind : List ℕ = zeros (room - size_of items) in
    let long : length bytes - 4 ≡ room = omega (arith, fits, ap length is, length-append (written items) behind, length-written items, length-zeros (room - size_of items)) in
    record { spelling = is ∙ ap (λ n. written items ++ zeros (n - size_of items)) (sym long); fit = fit }

pub joined_pages-page : (items : List ItemState) → FitPage items → FitAlone items → IsPage (joined_pages (pages_of items)) items
joined_pages-page items fit alone = by_cases (fit_one items) refl where
  by_cases : (b : Bool) → fit_one items ≡ b → IsPage (joined_pages (pages_of items)) items
  by_cases true h = page_of_room (joined_pages (pages_of items)) MAX_ENTRY_BYTES items (fit_parts items h).0 (joined_pages-one items h) fit
  by_cases false h =
      let long = long_from items fit.storable alone h in
      page_of_room (joined_pages (pages_of items)) (FRONT_BYTES - 4 + overflow_of items * PAGE_BYTES) items (omega (arith, long.room, long.low)) (joined_pages-long items h long) fit

-- ---- pages that were added for items

first_of : (f : ℕ → List ℕ) (numbers : List ℕ) (page : List ℕ) (pages : List (List ℕ)) → map f numbers ≡ page ∷ pages → f (get_or numbers 0 0) ≡ page
first_of f [] page pages e = absurd (omega (arith, ap length e))
first_of f (n ∷ numbers) page pages e = ap (λ (ps : List (List ℕ)). get_or ps 0 []) e

zeros_behind : (bytes : List ℕ) → FRONT_BYTES ≤ length bytes → list_all (λ byte. byte == 0) (drop FRONT_BYTES (filled (take FRONT_BYTES bytes))) ≡ true
unfolding filled
zeros_behind bytes long =
    let front : List ℕ = take FRONT_BYTES bytes in
    let len : length front ≡ FRONT_BYTES = length-take-le FRONT_BYTES bytes long in
    let rest : drop FRONT_BYTES (front ++ zeros (PAGE_BYTES - length front)) ≡ zeros (PAGE_BYTES - length front) = drop_at front (zeros (PAGE_BYTES - length front)) FRONT_BYTES len in
    ap (list_all (λ byte. byte == 0)) rest ∙ all_zeros (PAGE_BYTES - length front)

single : (items : List ItemState) → FitAlone items → fit_one items ≡ false → length items ≡ 1
single items (inl fits) h = absurd (false≢true (sym h ∙ fits))
single items (inr one) h = one

pub fit_pages : (pages : Pages) (numbers : List ℕ) (items : List ItemState) → map (page_at pages) numbers ≡ pages_of items → AreStorable items → FitAlone items → FitPages pages numbers items
fit_pages pages numbers items is storable alone = by_cases (fit_one items) refl where
  many : length numbers ≡ 1 + overflow_of items
  many = sym (length-map numbers (page_at pages)) ∙ ap length is ∙ length-pages items

  by_cases : (b : Bool) → fit_one items ≡ b → FitPages pages numbers items
  by_cases true h =
      let none = overflow-one items h in
      record {
        some = omega (arith, many);
        few = omega (arith, many, none);
        one = λ _. h;
        alone = λ more. absurd (omega (arith, many, none, more));
        zeros = λ more. absurd (omega (arith, many, none, more));
      }
  by_cases false h =
      let long = long_from items storable alone h in
      let bytes : List ℕ = written items in
      let first : page_at pages (get_or numbers 0 0) ≡ filled (take FRONT_BYTES bytes) =
      first_of (page_at pages) numbers (filled (take FRONT_BYTES bytes)) (spread (overflow_of items) (drop FRONT_BYTES bytes)) (is ∙ pages-long items h) in
      record {
        some = omega (arith, many);
        few = omega (arith, many, long.few);
        one = λ few. absurd (omega (arith, many, few, long.some));
        alone = λ _. single items alone h;
        zeros = λ _. ap (λ (page : List ℕ). list_all (λ byte. byte == 0) (drop FRONT_BYTES page)) first ∙ zeros_behind bytes (omega (arith, length-written items, long.low));
      }

pub page_on : (pages : Pages) (numbers : List ℕ) (items : List ItemState) → map (page_at pages) numbers ≡ pages_of items → FitPage items → FitAlone items → IsPage (bytes_on pages numbers) items
unfolding bytes_on
page_on pages numbers items is fit alone = subst (λ (bytes : List ℕ). IsPage bytes items) (sym (ap joined_pages is)) (joined_pages-page items fit alone)

-- ---- each of the pages, made of a number and entries

written_is : (items : List ItemState) (number entries : List ℕ) → number ≡ encoded_count (length items) → entries ≡ entries_of items → number ++ entries ≡ written items
written_is items number entries n e = (λ i. n i ++ e i) ∙ sym (written_parts items)

only : (page d : List ℕ) (at : ℕ) → at < length (page ∷ []) → get_or (page ∷ []) at d ≡ page
only page d zero within = refl
only page d (suc at) within = absurd (omega (arith, within))

pub one_page : (items : List ItemState) (number entries : List ℕ) (at : ℕ) (d : List ℕ) → number ≡ encoded_count (length items) → entries ≡ entries_of items → fit_one items ≡ true
    → at < length (pages_of items) → filled (number ++ entries) ≡ get_or (pages_of items) at d
one_page items number entries at d n e fits within =
    let is = pages-one items fits in
    ap filled (written_is items number entries n e)
    ∙ sym (ap (λ (ps : List (List ℕ)). get_or ps at d) is ∙ only (filled (written items)) d at (omega (arith, within, ap length is)))

pub front_page : (items : List ItemState) (number entries : List ℕ) (at : ℕ) (d : List ℕ) → number ≡ encoded_count (length items) → entries ≡ entries_of items → fit_one items ≡ false
    → at ≡ 0 → filled (number ++ take 604 entries) ≡ get_or (pages_of items) at d
front_page items number entries at d n e more first =
    let four : length number ≡ 4 = ap length n ∙ length-encoded_count (length items) in
    let sum : length number + 604 ≡ FRONT_BYTES = omega (arith, four) in
    let front : number ++ take 604 entries ≡ take FRONT_BYTES (written items) =
    sym (take-append-add number entries 604) ∙ (λ i. take (sum i) (written_is items number entries n e i)) in
    ap filled front ∙ sym (ap (λ k. get_or (pages_of items) k d) first ∙ ap (λ (ps : List (List ℕ)). get_or ps 0 d) (pages-long items more))

behind_front : (page : List ℕ) (pages : List (List ℕ)) (at : ℕ) (d : List ℕ) → 0 < at → get_or (page ∷ pages) at d ≡ get_or pages (at - 1) d
behind_front page pages zero d some = absurd (omega (arith, some))
behind_front page pages (suc at) d some =
    let same : at ≡ suc at - 1 = omega arith in
    ap (λ n. get_or pages n d) same

part_is : (bytes : List ℕ) (start end : ℕ) → start ≤ length bytes → end ≡ min (length bytes) (start + PAGE_BYTES) → take (end - start) (drop start bytes) ≡ take PAGE_BYTES (drop start bytes)
part_is bytes start end within is =
    elim (cases_lt (start + PAGE_BYTES) (length bytes)) [
      | inl more ↦
          let size : end - start ≡ PAGE_BYTES = omega (arith, is, more) in
          ap (λ n. take n (drop start bytes)) size
      | inr less ↦
          let size : end - start ≡ length bytes - start = omega (arith, is, less) in
          let rest : length (drop start bytes) ≡ length bytes - start = length-drop start bytes in
          ap (λ n. take n (drop start bytes)) size
          ∙ take_all (length bytes - start) (drop start bytes) (omega (arith, rest))
          ∙ sym (take_all PAGE_BYTES (drop start bytes) (omega (arith, rest, less)))
    ]

pub overflow_page : (items : List ItemState) (number entries : List ℕ) (at end : ℕ) (d : List ℕ) → number ≡ encoded_count (length items) → entries ≡ entries_of items → fit_one items ≡ false
    → 0 < at → at < 1 + overflow_of items → 604 + (at - 1) * PAGE_BYTES ≤ length entries → end ≡ min (length entries) (604 + (at - 1) * PAGE_BYTES + PAGE_BYTES)
    → filled ([] ++ take (end - (604 + (at - 1) * PAGE_BYTES)) (drop (604 + (at - 1) * PAGE_BYTES) entries)) ≡ get_or (pages_of items) at d
overflow_page items number entries at end d n e more some within fits is =
    let four : length number ≡ 4 = ap length n ∙ length-encoded_count (length items) in
    let sum : length number + 604 ≡ FRONT_BYTES = omega (arith, four) in
    let rest : drop FRONT_BYTES (written items) ≡ drop 604 entries =
    sym ((λ i. drop (sum i) (written_is items number entries n e i))) ∙ drop-append-add number entries 604 in
    let i : ℕ = at - 1 in
    let start : ℕ = 604 + i * PAGE_BYTES in
    let part : drop (i * PAGE_BYTES) (drop FRONT_BYTES (written items)) ≡ drop start entries =
    ap (drop (i * PAGE_BYTES)) rest ∙ drop-drop (i * PAGE_BYTES) 604 entries in
    ap filled (part_is entries start end fits is ∙ ap (take PAGE_BYTES) (sym part))
    ∙ sym (
    ap (λ (ps : List (List ℕ)). get_or ps at d) (pages-long items more)
    ∙ behind_front (filled (take FRONT_BYTES (written items))) (spread (overflow_of items) (drop FRONT_BYTES (written items))) at d some
    ∙ spread_at (overflow_of items) i (drop FRONT_BYTES (written items)) d (omega (arith, some, within))
    )

-- how many pages items need at most
pub few_overflow : (items : List ItemState) → AreStorable items → FitAlone items → overflow_of items ≤ MAX_OVERFLOW_PAGES
few_overflow items storable alone = by_cases (fit_one items) refl where
  by_cases : (b : Bool) → fit_one items ≡ b → overflow_of items ≤ MAX_OVERFLOW_PAGES
  by_cases true h = omega (arith, overflow-one items h)
  by_cases false h = (long_from items storable alone h).few
