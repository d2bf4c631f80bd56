-- One item more, behind the others, and where the items of each set that it is in stand then.
use Rattle.std.specs.Prelude.{Option}
use Rattle.std.proofs.Common.{◌≡◌, ◌∙◌, ◌+◌, ◌<◌, ℕ, Bool, true, false, ◌&&◌, ◌||◌, not, if◌then◌else◌, List, [], ◌∷◌, ◌++◌, Some, None, length, take, drop, get_or, refl, sym, ap, slice_set}
use Rattle.std.specs.List.{list_any}
use Rattle.std.specs.Str.{bytes_eq}
use Rattle.std.proofs.lemmas.List.{drop_more}
use Rattle.oai_item.specs.Membership.{is_above, is_in}
use Rattle.oai_item.proofs.Above.{is_above-parent, is_above-root}
use Rattle.oai_names.specs.Sets.{covers, parent_of}
use Rattle.oai_sums.specs.Sums.{SetTotal, lacks, span_in, widened}
use Rattle.oai_sums.specs.declared.spans.Span.{Span}
use Rattle.oai_sums.proofs.CountLemmas.{both_no, if_false, if_true, lacks-own, parts_at, same_set, set_parts}

-- a span that goes on to the end of another one where it is so, else as it is
abbrev pub spanned : Bool → Span → Option Span → Option Span
spanned so more span = if so then Some (widened span more) else span

-- it goes on to the same end twice
pub spanned_twice : (a b : Bool) (more : Span) (span : Option Span) → spanned b more (spanned a more span) ≡ spanned (a || b) more span
spanned_twice true true more None = refl
spanned_twice true true more (Some span) = refl
spanned_twice true false more span = refl
spanned_twice false true more span = refl
spanned_twice false false more span = refl

-- what is still to come, behind one step
pub spanned_next : (q : List ℕ) (a b all : Bool) (more : Span) (old new : List SetTotal) → span_in q new ≡ spanned a more (span_in q old) → (a || b) ≡ all → spanned b more (span_in q new) ≡ spanned all more (span_in q old)
spanned_next q a b all more old new step is =
    ap (spanned b more) step ∙ spanned_twice a b more (span_in q old) ∙ ap (λ so. spanned so more (span_in q old)) is

-- ---- one set

own_spanned : (b : Bool) (span more : Span) (rest : Option Span) → (if b then Some (widened (Some span) more) else rest) ≡ spanned b more (if b then Some span else rest)
own_spanned true span more rest = refl
own_spanned false span more rest = refl

other_spanned : (b c : Bool) (span more : Span) (new old : Option Span) → (b ≡ true → c ≡ false) → new ≡ spanned c more old → (if b then Some span else new) ≡ spanned c more (if b then Some span else old)
other_spanned true c span more new old apart h = rw (apart refl) refl
other_spanned false c span more new old apart h = h

-- the first one of the set goes on to that end
pub spans_one : (set q : List ℕ) (count : ℕ) (more : Span) (front : List SetTotal) (total : SetTotal) (back : List SetTotal) → lacks set front ≡ true → bytes_eq set total.set ≡ true
    → span_in q (front ++ record { set = total.set; count = count; span = widened (Some total.span) more } ∷ back) ≡ spanned (bytes_eq q set) more (span_in q (front ++ total ∷ back))
spans_one set q count more [] total back none is =
    own_spanned (bytes_eq q total.set) total.span more (span_in q back) ∙ ap (λ b. spanned b more (span_in q (total ∷ back))) (same_set q set total.set is)
spans_one set q count more (other ∷ front) total back none is =
    let own = lacks-own set other front none in
    other_spanned (bytes_eq q other.set) (bytes_eq q set) other.span more _ _ (both_no q set other.set own.0) (spans_one set q count more front total back own.1 is)

-- a set behind the others
pub spans_new : (set q : List ℕ) (count : ℕ) (more : Span) (totals : List SetTotal) → lacks set totals ≡ true
    → span_in q (totals ++ record { set = set; count = count; span = more } ∷ []) ≡ spanned (bytes_eq q set) more (span_in q totals)
spans_new set q count more [] none = refl
spans_new set q count more (other ∷ totals) none =
    let own = lacks-own set other totals none in
    other_spanned (bytes_eq q other.set) (bytes_eq q set) other.span more _ _ (both_no q set other.set own.0) (spans_new set q count more totals own.1)

-- ---- by places

pub spans_at : (set q : List ℕ) (count : ℕ) (more : Span) (totals : List SetTotal) (at : ℕ) (own new : SetTotal) → at < length totals → lacks set (take at totals) ≡ true → own ≡ get_or totals at own → bytes_eq set own.set ≡ true
    → new ≡ record { set = own.set; count = count; span = widened (Some own.span) more } → span_in q (slice_set totals at new) ≡ spanned (bytes_eq q set) more (span_in q totals)
spans_at set q count more totals at own new within none is same spanned_is =
    ap (span_in q) (set_parts totals at new within)
    ∙ ap (λ y. span_in q (take at totals ++ y ∷ drop (at + 1) totals)) spanned_is
    ∙ spans_one set q count more (take at totals) own (drop (at + 1) totals) none same
    ∙ ap (λ zs. spanned (bytes_eq q set) more (span_in q zs)) (ap (λ y. take at totals ++ y ∷ drop (at + 1) totals) is ∙ sym (parts_at totals at own within))

pub span_at : (set : List ℕ) (totals : List SetTotal) (at : ℕ) (own : SetTotal) → at < length totals → own ≡ get_or totals at own → bytes_eq set own.set ≡ true → Some own.span ≡ span_in set (drop at totals)
span_at set totals at own within is same =
    sym (ap (span_in set) (drop_more totals at own within ∙ ap (λ y. y ∷ drop (at + 1) totals) (sym is)) ∙ if_true (bytes_eq set own.set) (Some own.span) (span_in set (drop (at + 1) totals)) same)

pub span_past : (set : List ℕ) (totals : List SetTotal) (at : ℕ) (own : SetTotal) → at < length totals → own ≡ get_or totals at own → bytes_eq set own.set ≡ false → span_in set (drop (at + 1) totals) ≡ span_in set (drop at totals)
span_past set totals at own within is apart =
    sym (ap (span_in set) (drop_more totals at own within ∙ ap (λ y. y ∷ drop (at + 1) totals) (sym is)) ∙ if_false (bytes_eq set own.set) (Some own.span) (span_in set (drop (at + 1) totals)) apart)

-- ---- which sets are still to come

-- a setSpec: the set itself, or one above it
pub path_either : (q set : List ℕ) (b : Bool) → ((bytes_eq q set && b) || (is_above q set && b)) ≡ (covers q set && b)
unfolding covers is_above
path_either q set b = by_test (bytes_eq q set) _ b where
  by_test : (own below b : Bool) → ((own && b) || (((own || below) && not own) && b)) ≡ ((own || below) && b)
  by_test true true true = refl
  by_test true true false = refl
  by_test true false true = refl
  by_test true false false = refl
  by_test false true true = refl
  by_test false true false = refl
  by_test false false true = refl
  by_test false false false = refl

-- one above a path: its parent, or one above that
pub above_either : (q path parent : List ℕ) (b : Bool) → parent_of path ≡ Some parent → ((bytes_eq q parent && b) || (is_above q parent && b)) ≡ (is_above q path && b)
above_either q path parent b is = by_test (bytes_eq q parent) (is_above q parent) b ∙ ap (λ c. c && b) (sym (is_above-parent path parent q is)) where
  by_test : (own above b : Bool) → ((own && b) || (above && b)) ≡ ((own || above) && b)
  by_test true true true = refl
  by_test true true false = refl
  by_test true false true = refl
  by_test true false false = refl
  by_test false true true = refl
  by_test false true false = refl
  by_test false false true = refl
  by_test false false false = refl

pub above_no : (q path : List ℕ) (b : Bool) → parent_of path ≡ None → (is_above q path && b) ≡ false
above_no q path b is = ap (λ c. c && b) (is_above-root path q is)

-- by the first of the setSpecs alone, or by one of the others
pub in_either : (q set : List ℕ) (sets : List (List ℕ)) → ((covers q set && not (is_in q sets)) || is_in q sets) ≡ is_in q (set ∷ sets)
unfolding is_in
in_either q set sets = by_test (covers q set) (list_any (covers q) sets) where
  by_test : (a b : Bool) → ((a && not b) || b) ≡ (a || b)
  by_test true true = refl
  by_test true false = refl
  by_test false true = refl
  by_test false false = refl

pub in_no : (q : List ℕ) → is_in q [] ≡ false
unfolding is_in
in_no q = refl
