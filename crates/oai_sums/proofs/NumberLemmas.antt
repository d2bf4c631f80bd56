-- How many items are in a set, one item more or all of two lists.
use Rattle.std.specs.Prelude.{Option}
use Rattle.std.proofs.Common.{◌≡◌, ◌∙◌, ◌+◌, ℕ, Bool, true, false, List, [], ◌∷◌, ◌++◌, None, Some, if◌then◌else◌, length, refl, sym, ap, length-append}
use Rattle.std.specs.Prelude.{filter}
use Rattle.std.proofs.lemmas.List.Elements.{filter-append}
use Rattle.std.proofs.lemmas.Option.{none-some}
use Rattle.std.specs.Str.{bytes_eq}
use Rattle.oai_item.specs.Item.{ItemState}
use Rattle.oai_item.specs.Membership.{is_in}
use Rattle.oai_sums.specs.Sums.{AreCounts, CountsMore, SetTotal, count_in_set, counted_in, one_if, span_in}
use Rattle.oai_sums.specs.declared.spans.Span.{Span}

pub count_in_set-nil : (set : List ℕ) → count_in_set set [] ≡ 0
unfolding count_in_set
count_in_set-nil set = refl

-- the items of two lists
pub count_in_set-append : (set : List ℕ) (xs ys : List ItemState) → count_in_set set (xs ++ ys) ≡ count_in_set set xs + count_in_set set ys
unfolding count_in_set
count_in_set-append set xs ys =
    ap length (filter-append (λ (x : ItemState). is_in set x.sets) xs ys)
    ∙ length-append (filter (λ (x : ItemState). is_in set x.sets) xs) (filter (λ (x : ItemState). is_in set x.sets) ys)

-- no items are counted by no counts
pub counts_none : (totals : List SetTotal) (items : List ItemState) → totals ≡ [] → items ≡ [] → AreCounts totals items
counts_none totals items none empty set = rw (none, empty) (sym (count_in_set-nil set))

one_of : (set : List ℕ) (item : ItemState) → length (filter (λ (x : ItemState). is_in set x.sets) (item ∷ [])) ≡ one_if (is_in set item.sets)
one_of set item = by_test (is_in set item.sets) where
  by_test : (b : Bool) → length (if b then item ∷ [] else []) ≡ one_if b
  by_test true = refl
  by_test false = refl

-- counts of items, with one more counted
pub counts_more : (totals more : List SetTotal) (items all : List ItemState) (item : ItemState) → AreCounts totals items → CountsMore (λ set. is_in set item.sets) totals more → all ≡ items ++ item ∷ [] → AreCounts more all
unfolding count_in_set
counts_more totals more items all item h counted is set =
    counted set
    ∙ (λ i. h set i + sym (one_of set item) i)
    ∙ sym (count_in_set-append set items (item ∷ []))
    ∙ ap (count_in_set set) (sym is)

own_none : (b : Bool) (span : Span) (rest : Option Span) (count n : ℕ) → (rest ≡ None → n ≡ 0) → (if b then Some span else rest) ≡ None → (if b then count else n) ≡ 0
own_none true span rest count n so none = absurd (none-some span (sym none))
own_none false span rest count n so none = so none

-- a set that stands nowhere has no items
pub unspanned_none : (set : List ℕ) (totals : List SetTotal) → span_in set totals ≡ None → counted_in set totals ≡ 0
unspanned_none set [] none = refl
unspanned_none set (total ∷ totals) none = own_none (bytes_eq set total.set) total.span (span_in set totals) total.count (counted_in set totals) (unspanned_none set totals) none
