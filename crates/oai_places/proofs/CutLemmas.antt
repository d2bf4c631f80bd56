-- Where entries are cut, and the page of some of them.
use Rattle.std.proofs.Common.{◌≡◌, ◌∙◌, ◌+◌, ◌-◌, ◌*◌, ◌^◌, ◌<◌, ◌≤◌, ℕ, List, [], ◌++◌, length, take, drop, refl, sym, ap, arith, inl, inr, append_assoc, append-nil, length-append}
use Rattle.std.specs.Prelude.{replicate}
use Rattle.std.proofs.lemmas.Bool.{cases_lt}
use Rattle.std.proofs.lemmas.List.{drop_all, length-drop, length-take-le, take_all, take_at}
use Rattle.oai_item.specs.Item.{ItemState}
use Rattle.oai_device.specs.declared.devices.TheConstants.{PAGE_BYTES}
use Rattle.oai_places.specs.Pages.{AreStorable, FitAlone, between, filled, size_of}
use Rattle.oai_places.specs.declared.sizes.TheConstants.{MAX_ENTRY_BYTES}
use Rattle.oai_places.proofs.BetweenLemmas.{length-between}
use Rattle.oai_places.proofs.EntryLemmas.{size_of-between}
use Rattle.oai_places.proofs.PageLemmas.{size_of-least, size_of-nil}
use Rattle.oai_places.proofs.ShortLemmas.{fit_parts}

-- ---- how many bytes are between two places

-- from a place to the end
pub size_of-rest : (items : List ItemState) (from : ℕ) → from ≤ length items → size_of (take from items) + size_of (between from (length items) items) ≡ size_of items
size_of-rest items from within = size_of-between items from (length items) within ∙ ap size_of (take_all (length items) items (omega arith))

-- where there are more bytes, there are more items
pub more_left : (items : List ItemState) (from : ℕ) → size_of (take from items) < size_of items → from < length items
more_left items from less =
    elim (cases_lt from (length items)) [
      | inl lt ↦ lt
      | inr le ↦ absurd (omega (arith, less, ap size_of (take_all from items le)))
    ]

-- what is left behind two cuts has room on a page
pub third_fits : (items : List ItemState) (first second goal : ℕ) → size_of items ≤ 2 * MAX_ENTRY_BYTES → size_of items ≤ 2 * goal + 1
    → first ≤ second → second ≤ length items → (first < length items → first < second) → (first < length items → goal < size_of (between 0 (first + 1) items))
    → size_of (between second (length items) items) ≤ MAX_ENTRY_BYTES
third_fits items first second goal all half order within some most =
    let rest : size_of (take second items) + size_of (between second (length items) items) ≡ size_of items = size_of-rest items second within in
    elim (cases_lt first (length items)) [
      | inl lt ↦
          let none : size_of (take 0 items) ≡ 0 = size_of-nil in
          omega (arith, all, half, rest, none, most lt, size_of-between items 0 (first + 1) (omega arith), size_of-between items (first + 1) second (omega (arith, some lt)))
      | inr le ↦
          let end : size_of (take second items) ≡ size_of items = ap size_of (take_all second items (omega (arith, le, order))) in
          omega (arith, rest, end)
    ]

-- ---- a page that is written

-- a number is as many bytes as four
pub few_between : (items : List ItemState) (from to : ℕ) → from ≤ to → to ≤ length items → AreStorable items → FitAlone (between from to items) → (length (between from to items) ≡ to - from) × (to - from < 2 ^ 32)
unfolding between
few_between items from to order within storable alone =
    let long : length (between from to items) ≡ to - from = length-drop from (take to items) ∙ ap (λ n. n - from) (length-take-le to items within) in
    (long, few alone) where
      few : FitAlone (between from to items) → to - from < 2 ^ 32
      few (inl fits) = omega (arith, length-between from to items within, (fit_parts (between from to items) fits).0, size_of-least (between from to items))
      few (inr one) = omega (arith, length-between from to items within, one)

-- a page over which two parts were written, and zeros behind them
pub page_filled : (front back old first second cleared : List ℕ) → length front + length back ≤ PAGE_BYTES → length second ≡ PAGE_BYTES
    → first ≡ take 0 old ++ (front ++ drop (0 + length front) old)
    → second ≡ take (length front) first ++ (back ++ drop (length front + length back) first)
    → cleared ≡ replicate (length (take (PAGE_BYTES - (length front + length back)) (drop (length front + length back) second))) 0
    → take (length front + length back) second
    ++ (cleared ++ drop (PAGE_BYTES - (length front + length back)) (drop (length front + length back) second)) ≡ filled (front ++ back)
unfolding filled
page_filled front back old first second cleared fits long f g zeros =
    let at = length front + length back in
    let rest : List ℕ = drop at first in
    let head : take (length front) first ≡ front = ap (take (length front)) f ∙ take_at front (drop (0 + length front) old) (length front) refl in
    let both : take at second ≡ front ++ back =
    ap (take at) (g ∙ ap (λ bytes. bytes ++ (back ++ rest)) head ∙ sym (append_assoc front back rest)) ∙ take_at (front ++ back) rest at (length-append front back) in
    let many : length (take (PAGE_BYTES - at) (drop at second)) ≡ PAGE_BYTES - length (front ++ back) =
    length-take-le (PAGE_BYTES - at) (drop at second) (omega (arith, length-drop at second, long)) ∙ ap (λ n. PAGE_BYTES - n) (sym (length-append front back)) in
    let blank : cleared ≡ replicate (PAGE_BYTES - length (front ++ back)) 0 = zeros ∙ ap (λ (n : ℕ). replicate n 0) many in
    let none : drop (PAGE_BYTES - at) (drop at second) ≡ [] = drop_all (PAGE_BYTES - at) (drop at second) (omega (arith, length-drop at second, long)) in
    (λ k. both k ++ (blank k ++ none k)) ∙ ap (λ bytes. front ++ back ++ bytes) (append-nil (replicate (PAGE_BYTES - length (front ++ back)) 0))
