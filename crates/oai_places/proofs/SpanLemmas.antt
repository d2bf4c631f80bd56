-- Within which span of the entries of items those of a set stand, one item more.
use Rattle.std.proofs.Common.{◌≡◌, ◌∙◌, ◌+◌, ◌≤◌, nat_le, not, ℕ, suc, zero, Bool, true, false, List, [], ◌∷◌, ◌++◌, Option, Some, None, if◌then◌else◌, length, take, drop, refl, sym, ap, subst, arith, length-append}
use Rattle.std.specs.Prelude.{filter}
use Rattle.std.proofs.lemmas.Bool.{cond-false, cond-true, false_from_ne_true, le-leb, leb-true}
use Rattle.std.proofs.lemmas.List.{drop-append-le, drop_all, take-append-le, take_all}
use Rattle.std.proofs.lemmas.List.Filters.{length-filter_both}
use Rattle.std.proofs.lemmas.Option.{none-some}
use Rattle.oai_item.specs.Item.{ItemState}
use Rattle.oai_item.specs.Membership.{is_in}
use Rattle.oai_sums.specs.Sums.{CountsMore, SetTotal, SpansMore, count_in_set, span_in, widened}
use Rattle.oai_sums.specs.declared.spans.Span.{Span}
use Rattle.oai_sums.proofs.NumberLemmas.{count_in_set-append, count_in_set-nil, counts_more, counts_none, unspanned_none}
use Rattle.oai_places.specs.Entries.{IsSpanOfOne, ending_by, ends_from}
use Rattle.oai_places.specs.Pages.{between, entry_of, size_of}
use Rattle.oai_places.specs.Places.{AreCountedWithin, IsSpan}
use Rattle.oai_places.specs.declared.sizes.TheConstants.{MAX_ENTRY_BYTES}
use Rattle.oai_places.proofs.EntryLemmas.{length-ends_from, size_of-append, size_of-between}
use Rattle.oai_places.proofs.PageLemmas.{length-entry, size_of-cons, size_of-nil}
use Rattle.oai_places.proofs.PartLemmas.{fewer}

some_one : {A : Type 0} (a b : A) → Some a ≡ Some b → a ≡ b
some_one a b e = cc

-- no items are counted by no counts, which have no spans
pub within_none : (totals : List SetTotal) (items : List ItemState) → totals ≡ [] → items ≡ [] → AreCountedWithin totals items
within_none totals items none empty = record {
  counts = counts_none totals items none empty;
  spans = λ fits set span is. absurd (none-some span (sym (ap (span_in set) none) ∙ is));
}

-- ---- how many entries end by a byte

-- none of those that begin there or behind it
ended_none : (byte start : ℕ) (items : List ItemState) → byte ≤ start → length (filter (λ (end : ℕ). nat_le end byte) (ends_from start items)) ≡ 0
ended_none byte start [] below = refl
ended_none byte start (item ∷ items) below =
    let end : ℕ = start + length (entry_of item) in
    let others : List ℕ = filter (λ (e : ℕ). nat_le e byte) (ends_from end items) in
    ap length (cond-false (nat_le end byte) (end ∷ others) others (false_from_ne_true (nat_le end byte) (λ h. absurd (omega (arith, leb-true end byte h, below, length-entry item)))))
    ∙ ended_none byte end items (omega (arith, below))

ended_many : (byte start n : ℕ) (items : List ItemState) → n ≤ length items → byte ≡ start + size_of (take n items) → length (filter (λ (end : ℕ). nat_le end byte) (ends_from start items)) ≡ n
ended_many byte start zero items within is = ended_none byte start items (omega (arith, is, size_of-nil))
ended_many byte start (suc n) [] within is = absurd (omega (arith, within))
ended_many byte start (suc n) (item ∷ items) within is =
    let end : ℕ = start + length (entry_of item) in
    let others : List ℕ = filter (λ (e : ℕ). nat_le e byte) (ends_from end items) in
    let more : size_of (take (suc n) (item ∷ items)) ≡ length (entry_of item) + size_of (take n items) = size_of-cons item (take n items) in
    ap length (cond-true (nat_le end byte) (end ∷ others) others (le-leb end byte (omega (arith, is, more))))
    ∙ ap suc (ended_many byte end n items (omega (arith, within)) (omega (arith, is, more)))

-- so many as have that many bytes
ending_is : (byte n : ℕ) (items : List ItemState) → n ≤ length items → byte ≡ size_of (take n items) → ending_by byte items ≡ n
ending_is byte n items within is = ended_many byte 0 n items within (omega (arith, is))

ending_within : (byte : ℕ) (items : List ItemState) → ending_by byte items ≤ length items
ending_within byte items =
    omega (arith, length-filter_both (λ (end : ℕ). nat_le end byte) (λ (end : ℕ). not (nat_le end byte)) (λ end. refl) (ends_from 0 items), length-ends_from 0 items)

ending_later : (from to : ℕ) (items : List ItemState) → from ≤ to → ending_by from items ≤ ending_by to items
ending_later from to items order =
    fewer (λ (end : ℕ). nat_le end from) (λ (end : ℕ). nat_le end to) (λ end h. le-leb end to (omega (arith, leb-true end from h, order))) (ends_from 0 items)

-- ---- spans by the places of their items

-- the items of the set stand from the one place up to the other, and the span is that of their entries
pub record StandBetween (set : List ℕ) (items : List ItemState) (span : Span) (first end : ℕ) : Type 0 where
  pub order : first ≤ end
  pub within : end ≤ length items
  pub from : span.from ≡ size_of (take first items)
  pub to : span.to ≡ size_of (take end items)
  pub before : count_in_set set (take first items) ≡ 0
  pub behind : count_in_set set (drop end items) ≡ 0

pub by_places : (set : List ℕ) (items : List ItemState) (span : Span) → IsSpan set items span → StandBetween set items span (ending_by span.from items) (ending_by span.to items)
by_places set items span h = record {
  order = ending_later span.from span.to items h.order;
  within = ending_within span.to items;
  from = h.from;
  to = h.to;
  before = h.before;
  behind = h.behind;
}

by_bytes : (set : List ℕ) (items : List ItemState) (span : Span) (first end : ℕ) → StandBetween set items span first end → IsSpan set items span
by_bytes set items span first end h =
    let is_first : ending_by span.from items ≡ first = ending_is span.from first items (omega (arith, h.order, h.within)) h.from in
    let is_end : ending_by span.to items ≡ end = ending_is span.to end items h.within h.to in
    record {
      order = omega (arith, h.from, h.to, size_of-between items first end h.order);
      from = h.from ∙ ap (λ n. size_of (take n items)) (sym is_first);
      to = h.to ∙ ap (λ n. size_of (take n items)) (sym is_end);
      before = ap (λ n. count_in_set set (take n items)) is_first ∙ h.before;
      behind = ap (λ n. count_in_set set (drop n items)) is_end ∙ h.behind;
    }

-- ---- one item more

-- the span of the entry of the item behind all others
pub record IsLast (items all : List ItemState) (span : Span) : Type 0 where
  pub from : span.from ≡ size_of items
  pub to : span.to ≡ size_of all

pub last_one : (from at : ℕ) (items : List ItemState) (span : Span) → IsSpanOfOne from at items span → IsLast (between from at items) (between from (at + 1) items) span
last_one from at items span one = record { from = one.from_byte; to = one.to_byte }

count_in_set-out : (set : List ℕ) (item : ItemState) → is_in set item.sets ≡ false → count_in_set set (item ∷ []) ≡ 0
unfolding count_in_set
count_in_set-out set item out = ap (λ b. length (if b then item ∷ [] else [])) out

front_of : (items : List ItemState) (item : ItemState) (n : ℕ) → n ≤ length items → take n (items ++ item ∷ []) ≡ take n items
front_of items item n within = take-append-le n items (item ∷ []) within

-- an item that is not in the set leaves its span as it is
span_kept : (set : List ℕ) (items : List ItemState) (item : ItemState) (span : Span) → is_in set item.sets ≡ false → IsSpan set items span → IsSpan set (items ++ item ∷ []) span
span_kept set items item span out is = by_bytes set (items ++ item ∷ []) span first end (record {
  order = h.order;
  within = omega (arith, h.within, length-append items (item ∷ []));
  from = h.from ∙ ap size_of (sym (front_of items item first (omega (arith, h.order, h.within))));
  to = h.to ∙ ap size_of (sym (front_of items item end h.within));
  before = ap (count_in_set set) (front_of items item first (omega (arith, h.order, h.within))) ∙ h.before;
  behind =
      ap (count_in_set set) (drop-append-le end items (item ∷ []) h.within) ∙ count_in_set-append set (drop end items) (item ∷ [])
      ∙ (λ i. h.behind i + count_in_set-out set item out i);
}) where
  first : ℕ
  first = ending_by span.from items

  end : ℕ
  end = ending_by span.to items

  h : StandBetween set items span first end
  h = by_places set items span is

none_behind : (set : List ℕ) (all : List ItemState) → count_in_set set (drop (length all) all) ≡ 0
none_behind set all = ap (count_in_set set) (drop_all (length all) all (omega arith)) ∙ count_in_set-nil set

-- one that is in it is the end of its span
span_widened : (set : List ℕ) (items : List ItemState) (item : ItemState) (old one : Span) → IsLast items (items ++ item ∷ []) one → IsSpan set items old → IsSpan set (items ++ item ∷ []) (widened (Some old) one)
span_widened set items item old one last is = by_bytes set all (widened (Some old) one) first (length all) (record {
  order = omega (arith, h.order, h.within, length-append items (item ∷ []));
  within = omega arith;
  from = h.from ∙ ap size_of (sym (front_of items item first (omega (arith, h.order, h.within))));
  to = last.to ∙ ap size_of (sym (take_all (length all) all (omega arith)));
  before = ap (count_in_set set) (front_of items item first (omega (arith, h.order, h.within))) ∙ h.before;
  behind = none_behind set all;
}) where
  all : List ItemState
  all = items ++ item ∷ []

  first : ℕ
  first = ending_by old.from items

  h : StandBetween set items old first (ending_by old.to items)
  h = by_places set items old is

-- and where it is the first of them, the whole of its span
span_begun : (set : List ℕ) (items : List ItemState) (item : ItemState) (one : Span) → IsLast items (items ++ item ∷ []) one → count_in_set set items ≡ 0 → IsSpan set (items ++ item ∷ []) one
span_begun set items item one last none = by_bytes set all one (length items) (length all) (record {
  order = omega (arith, length-append items (item ∷ []));
  within = omega arith;
  from = last.from ∙ ap size_of (sym front);
  to = last.to ∙ ap size_of (sym (take_all (length all) all (omega arith)));
  before = ap (count_in_set set) front ∙ none;
  behind = none_behind set all;
}) where
  all : List ItemState
  all = items ++ item ∷ []

  front : take (length items) all ≡ items
  front = front_of items item (length items) (omega arith) ∙ take_all (length items) items (omega arith)

span_more : (set : List ℕ) (items : List ItemState) (item : ItemState) (one span : Span) (old : Option Span) → (old ≡ None → count_in_set set items ≡ 0) → ((was : Span) → old ≡ Some was → IsSpan set items was)
    → IsLast items (items ++ item ∷ []) one → (b : Bool) → is_in set item.sets ≡ b → (if b then Some (widened old one) else old) ≡ Some span → IsSpan set (items ++ item ∷ []) span
span_more set items item one span old none stands last false out is = span_kept set items item span out (stands span is)
span_more set items item one span None none stands last true in_it is =
    subst (λ (s : Span). IsSpan set (items ++ item ∷ []) s) (some_one one span is) (span_begun set items item one last (none refl))
span_more set items item one span (Some old) none stands last true in_it is =
    subst (λ (s : Span). IsSpan set (items ++ item ∷ []) s) (some_one (widened (Some old) one) span is) (span_widened set items item old one last (stands old refl))

-- counts and spans of items, with one more counted
pub within_more : (totals more : List SetTotal) (items all : List ItemState) (item : ItemState) (one : Span) → AreCountedWithin totals items → (size_of all ≤ MAX_ENTRY_BYTES → IsLast items all one)
    → CountsMore (λ set. is_in set item.sets) totals more → SpansMore (λ set. is_in set item.sets) one totals more → all ≡ items ++ item ∷ [] → AreCountedWithin more all
within_more totals more items all item one h last counts spans is = record {
  counts = counts_more totals more items all item h.counts counts is;
  spans = λ fits set span spanned.
      let fewer_bytes : size_of items ≤ MAX_ENTRY_BYTES = omega (arith, fits, ap size_of is, size_of-append items (item ∷ [])) in
      subst (λ (zs : List ItemState). IsSpan set zs span) (sym is)
      (span_more set items item one span (span_in set totals) (λ none. sym (h.counts set) ∙ unspanned_none set totals none) (h.spans fewer_bytes set)
      (subst (λ (zs : List ItemState). IsLast items zs one) is (last fits)) (is_in set item.sets) refl (sym (spans set) ∙ spanned));
}
