-- Per-page statistics: how many of some items are in each set. OAI-PMH 2.0, section 2.6: an item that is in a set is in
-- each ancestor of it too.
use Rattle.std.specs.Prelude.{◌≡◌, ◌≢◌, ◌==◌, ◌+◌, ◌<◌, ℕ, Bool, true, if◌then◌else◌, List, [], ◌∷◌, length, take, filter, not, HoldsAt, Option, None, Some}
use Rattle.std.specs.List.{list_all}
use Rattle.std.specs.Str.{bytes_eq}
use Rattle.oai_item.specs.Item.{ItemState}
use Rattle.oai_item.specs.Membership.{is_in}
use Rattle.oai_sums.specs.declared.packed_counts.PackedCount.{PackedCount}
use Rattle.oai_sums.specs.declared.spans.Span.{Span}

-- how many of the items are in the set
unfoldable pub count_in_set : List ℕ → List ItemState → ℕ
count_in_set set items = length (filter (λ (item : ItemState). is_in set item.sets) items)

-- a set, how many items are counted in it, and within which span of bytes their entries are
pub record SetTotal : Type 0 where
  pub set : List ℕ
  pub count : ℕ
  pub span : Span

-- how many items are counted in the set: 0 if it is not there
abbrev pub counted_in : List ℕ → List SetTotal → ℕ
counted_in set [] = 0
counted_in set (total ∷ totals) = if bytes_eq set total.set then total.count else counted_in set totals

-- the set is none of these
unfoldable pub lacks : List ℕ → List SetTotal → Bool
lacks set totals = list_all (λ (total : SetTotal). not (bytes_eq set total.set)) totals

-- the set is at that position, and at none before it
pub record IsFirstAt (set : List ℕ) (totals : List SetTotal) (at : ℕ) : Type 0 where
  pub within : at < length totals
  pub own : HoldsAt (λ (total : SetTotal). bytes_eq set total.set ≡ true) totals at
  pub none : lacks set (take at totals) ≡ true

-- each set has as many of the items as are counted in it
abbrev pub AreCounts : List SetTotal → List ItemState → Type 0
AreCounts totals items = (set : List ℕ) → counted_in set totals ≡ count_in_set set items

-- 1 if it is true, else 0
abbrev pub one_if : Bool → ℕ
one_if so = if so then 1 else 0

-- one item more is counted in exactly those sets that pass
abbrev pub CountsMore : (List ℕ → Bool) → List SetTotal → List SetTotal → Type 0
CountsMore passes old new = (set : List ℕ) → counted_in set new ≡ counted_in set old + one_if (passes set)

-- ---- where the items of a set are

-- within which span of bytes the entries of the set's items are: nothing if it is not there
abbrev pub span_in : List ℕ → List SetTotal → Option Span
span_in set [] = None
span_in set (total ∷ totals) = if bytes_eq set total.set then Some total.span else span_in set totals

-- a span extended to the end of another one; or that one, if there is none before it
abbrev pub widened : Option Span → Span → Span
widened None more = more
widened (Some span) more = record { from = span.from; to = more.to }

-- the spans of exactly those sets that pass are extended to the end of that one
abbrev pub SpansMore : (List ℕ → Bool) → Span → List SetTotal → List SetTotal → Type 0
SpansMore passes span old new = (set : List ℕ) → span_in set new ≡ (if passes set then Some (widened (span_in set old) span) else span_in set old)

-- ---- packed counts

-- how many items the set at that position has: one, if nothing is stored of it
abbrev pub count_at : List PackedCount → ℕ → ℕ
count_at [] at = 1
count_at (other ∷ others) at = if other.at == at then other.count else count_at others at

-- nothing is stored of how many items the set at that position has
abbrev pub is_unsaid : List PackedCount → ℕ → Bool
is_unsaid several at = list_all (λ (other : PackedCount). not (other.at == at)) several

-- the set at that position has that many items, each other set has as many as before, and nothing more is stored of any
-- other set
pub record IsCounted (at count : ℕ) (old new : List PackedCount) : Type 0 where
  pub own : count_at new at ≡ count
  pub others : (other : ℕ) → other ≢ at → count_at new other ≡ count_at old other
  pub unsaid : (other : ℕ) → other ≢ at → is_unsaid old other ≡ true → is_unsaid new other ≡ true

-- the sets, the first of which has that position, each with its count and its span
abbrev pub totals_from : ℕ → List (List ℕ) → List Span → List PackedCount → List SetTotal
totals_from at [] spans several = []
totals_from at (set ∷ sets) [] several = []
totals_from at (set ∷ sets) (span ∷ spans) several = record { set = set; count = count_at several at; span = span } ∷ totals_from (at + 1) sets spans several
