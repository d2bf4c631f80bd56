-- One item more, counted in each set that it is in once.
use Rattle.std.specs.Prelude.{Option, OnSome}
use Rattle.std.proofs.Common.{◌≡◌, ◌∙◌, ◌+◌, ◌<◌, ℕ, Bool, true, false, ◌&&◌, ◌||◌, not, if◌then◌else◌, List, [], ◌∷◌, ◌++◌, Some, None, length, take, drop, get_or, refl, sym, ap, arith, slice_set}
use Rattle.std.specs.List.{list_any}
use Rattle.std.specs.Str.{bytes_eq}
use Rattle.std.proofs.lemmas.Bool.{and_from, and_parts, false_from_ne_true, false≢true}
use Rattle.std.proofs.lemmas.List.{drop_more, drop-set, take-append-drop, take-set, take_more}
use Rattle.std.proofs.lemmas.Slice.Eq.{bytes_eq-Decides}
use Rattle.oai_item.specs.Membership.{is_above, is_in}
use Rattle.oai_item.proofs.Above.{is_above-parent, is_above-root}
use Rattle.oai_names.specs.Sets.{covers, parent_of}
use Rattle.oai_sums.specs.Sums.{SetTotal, counted_in, lacks, one_if}
use Rattle.oai_sums.specs.declared.spans.Span.{Span}

pub lacks-none : (set : List ℕ) → lacks set [] ≡ true
unfolding lacks
lacks-none set = refl

pub lacks-own : (set : List ℕ) (total : SetTotal) (totals : List SetTotal) → lacks set (total ∷ totals) ≡ true → (bytes_eq set total.set ≡ false) × (lacks set totals ≡ true)
unfolding lacks
lacks-own set total totals h = (by_test (bytes_eq set total.set) (and_parts _ _ h).0, (and_parts _ _ h).1) where
  by_test : (b : Bool) → not b ≡ true → b ≡ false
  by_test true n = absurd (false≢true n)
  by_test false n = refl

-- ---- what is counted

pub if_true : {A : Type 0} (b : Bool) (x y : A) → b ≡ true → (if b then x else y) ≡ x
if_true true x y h = refl
if_true false x y h = absurd (false≢true h)

pub if_false : {A : Type 0} (b : Bool) (x y : A) → b ≡ false → (if b then x else y) ≡ y
if_false true x y h = absurd (false≢true (sym h))
if_false false x y h = refl

pub same_set : (q s t : List ℕ) → bytes_eq s t ≡ true → bytes_eq q t ≡ bytes_eq q s
same_set q s t is = ap (bytes_eq q) (sym ((bytes_eq-Decides s t).0 is))

pub both_no : (q s t : List ℕ) → bytes_eq s t ≡ false → bytes_eq q t ≡ true → bytes_eq q s ≡ false
both_no q s t apart is =
    false_from_ne_true (bytes_eq q s) (λ h. false≢true (sym apart ∙ (bytes_eq-Decides s t).1 (sym ((bytes_eq-Decides q s).0 h) ∙ (bytes_eq-Decides q t).0 is)))

own_more : (b : Bool) (count more rest : ℕ) → (if b then count + more else rest) ≡ (if b then count else rest) + (if b then more else 0)
own_more true count more rest = refl
own_more false count more rest = omega arith

other_more : (b c : Bool) (count more new old : ℕ) → (b ≡ true → c ≡ false) → new ≡ old + (if c then more else 0) → (if b then count else new) ≡ (if b then count else old) + (if c then more else 0)
other_more true c count more new old apart h = rw (apart refl) (omega arith)
other_more false c count more new old apart h = h

-- the first one of the set counts so many more
pub counts_one : (set q : List ℕ) (more : ℕ) (span : Span) (front : List SetTotal) (total : SetTotal) (back : List SetTotal) → lacks set front ≡ true → bytes_eq set total.set ≡ true
    → counted_in q (front ++ record { set = total.set; count = total.count + more; span = span } ∷ back) ≡ counted_in q (front ++ total ∷ back) + (if bytes_eq q set then more else 0)
counts_one set q more span [] total back none is =
    own_more (bytes_eq q total.set) total.count more (counted_in q back) ∙ ap (λ b. counted_in q (total ∷ back) + (if b then more else 0)) (same_set q set total.set is)
counts_one set q more span (other ∷ front) total back none is =
    let own = lacks-own set other front none in
    other_more (bytes_eq q other.set) (bytes_eq q set) other.count more _ _ (both_no q set other.set own.0) (counts_one set q more span front total back own.1 is)

-- a set behind the others
pub counts_new : (set q : List ℕ) (more : ℕ) (span : Span) (totals : List SetTotal) → lacks set totals ≡ true
    → counted_in q (totals ++ record { set = set; count = more; span = span } ∷ []) ≡ counted_in q totals + (if bytes_eq q set then more else 0)
counts_new set q more span [] none = omega arith
counts_new set q more span (other ∷ totals) none =
    let own = lacks-own set other totals none in
    other_more (bytes_eq q other.set) (bytes_eq q set) other.count more _ _ (both_no q set other.set own.0) (counts_new set q more span totals own.1)

-- ---- by places

pub parts_at : (totals : List SetTotal) (at : ℕ) (d : SetTotal) → at < length totals → totals ≡ take at totals ++ get_or totals at d ∷ drop (at + 1) totals
parts_at totals at d within = sym (take-append-drop at totals) ∙ ap (λ zs. take at totals ++ zs) (drop_more totals at d within)

pub set_parts : (totals : List SetTotal) (at : ℕ) (y : SetTotal) → at < length totals → slice_set totals at y ≡ take at totals ++ y ∷ drop (at + 1) totals
set_parts totals at y within =
    sym (take-append-drop at (slice_set totals at y)) ∙ (λ i. take-set totals at y i ++ drop-set totals at y within i)

pub counts_at : (set q : List ℕ) (more : ℕ) (span : Span) (totals : List SetTotal) (at : ℕ) (own new : SetTotal) → at < length totals → lacks set (take at totals) ≡ true → own ≡ get_or totals at own → bytes_eq set own.set ≡ true
    → new ≡ record { set = own.set; count = own.count + more; span = span } → counted_in q (slice_set totals at new) ≡ counted_in q totals + (if bytes_eq q set then more else 0)
counts_at set q more span totals at own new within none is same counted =
    ap (counted_in q) (set_parts totals at new within)
    ∙ ap (λ y. counted_in q (take at totals ++ y ∷ drop (at + 1) totals)) counted
    ∙ counts_one set q more span (take at totals) own (drop (at + 1) totals) none same
    ∙ ap (λ zs. counted_in q zs + (if bytes_eq q set then more else 0)) (ap (λ y. take at totals ++ y ∷ drop (at + 1) totals) is ∙ sym (parts_at totals at own within))

pub counted_at : (set : List ℕ) (totals : List SetTotal) (at : ℕ) (own : SetTotal) → at < length totals → own ≡ get_or totals at own → bytes_eq set own.set ≡ true → own.count ≡ counted_in set (drop at totals)
counted_at set totals at own within is same =
    sym (ap (counted_in set) (drop_more totals at own within ∙ ap (λ y. y ∷ drop (at + 1) totals) (sym is)) ∙ if_true (bytes_eq set own.set) own.count (counted_in set (drop (at + 1) totals)) same)

pub counted_past : (set : List ℕ) (totals : List SetTotal) (at : ℕ) (own : SetTotal) → at < length totals → own ≡ get_or totals at own → bytes_eq set own.set ≡ false → counted_in set (drop (at + 1) totals) ≡ counted_in set (drop at totals)
counted_past set totals at own within is apart =
    sym (ap (counted_in set) (drop_more totals at own within ∙ ap (λ y. y ∷ drop (at + 1) totals) (sym is)) ∙ if_false (bytes_eq set own.set) own.count (counted_in set (drop (at + 1) totals)) apart)

lacks-more : (set : List ℕ) (totals : List SetTotal) (own : SetTotal) → lacks set totals ≡ true → bytes_eq set own.set ≡ false → lacks set (totals ++ own ∷ []) ≡ true
unfolding lacks
lacks-more set [] own h apart = rw apart refl
lacks-more set (other ∷ totals) own h apart =
    let parts = and_parts _ _ h in
    and_from _ _ parts.0 (lacks-more set totals own parts.1 apart)

pub lacks_past : (set : List ℕ) (totals : List SetTotal) (at : ℕ) (own : SetTotal) → at < length totals → own ≡ get_or totals at own → bytes_eq set own.set ≡ false → lacks set (take at totals) ≡ true
    → lacks set (take (at + 1) totals) ≡ true
lacks_past set totals at own within is apart h =
    ap (lacks set) (take_more totals at own within ∙ ap (λ y. take at totals ++ y ∷ []) (sym is)) ∙ lacks-more set (take at totals) own h apart

-- one more of counts is counted
pub counts_next : (q : List ℕ) (totals : List SetTotal) (at : ℕ) (own : SetTotal) → at < length totals → own ≡ get_or totals at own → lacks own.set (take at totals) ≡ true
    → counted_in q (take (at + 1) totals) ≡ counted_in q (take at totals) + (if bytes_eq q own.set then own.count else 0)
counts_next q totals at own within is none =
    ap (counted_in q) (take_more totals at own within ∙ ap (λ y. take at totals ++ y ∷ []) (sym is)) ∙ counts_new own.set q own.count own.span (take at totals) none

-- ---- a set and those above it

-- what is counted of a setSpec: the set itself, and the sets above it
pub path_parts : (q set : List ℕ) (b : Bool) → one_if (covers q set && b) ≡ one_if (bytes_eq q set && b) + one_if (is_above q set && b)
unfolding covers is_above
path_parts q set b = by_test (bytes_eq q set) _ b where
  by_test : (own below b : Bool) → one_if ((own || below) && b) ≡ one_if (own && b) + one_if (((own || below) && not own) && b)
  by_test true true true = refl
  by_test true true false = refl
  by_test true false true = refl
  by_test true false false = refl
  by_test false true true = refl
  by_test false true false = refl
  by_test false false true = refl
  by_test false false false = refl

either_one : (q parent : List ℕ) (b : Bool) → one_if ((bytes_eq q parent || is_above q parent) && b) ≡ one_if (bytes_eq q parent && b) + one_if (is_above q parent && b)
unfolding is_above
either_one q parent b = by_test (bytes_eq q parent) (covers q parent) b where
  by_test : (own in_it b : Bool) → one_if ((own || (in_it && not own)) && b) ≡ one_if (own && b) + one_if ((in_it && not own) && b)
  by_test true true true = refl
  by_test true true false = refl
  by_test true false true = refl
  by_test true false false = refl
  by_test false true true = refl
  by_test false true false = refl
  by_test false false true = refl
  by_test false false false = refl

-- of those above a path: its parent, and those above that
pub above_parts : (q path parent : List ℕ) (b : Bool) → parent_of path ≡ Some parent → one_if (is_above q path && b) ≡ one_if (bytes_eq q parent && b) + one_if (is_above q parent && b)
above_parts q path parent b is = ap (λ c. one_if (c && b)) (is_above-parent path parent q is) ∙ either_one q parent b

pub above_none : (q path : List ℕ) (b : Bool) → parent_of path ≡ None → one_if (is_above q path && b) ≡ 0
above_none q path b is = ap (λ c. one_if (c && b)) (is_above-root path q is)

-- ---- a setSpec and those behind it

-- an item is in a set by the first of its setSpecs alone, or by one of the others
pub in_parts : (q set : List ℕ) (sets : List (List ℕ)) → one_if (is_in q (set ∷ sets)) ≡ one_if (covers q set && not (is_in q sets)) + one_if (is_in q sets)
unfolding is_in
in_parts q set sets = by_test (covers q set) (list_any (covers q) sets) where
  by_test : (a b : Bool) → one_if (a || b) ≡ one_if (a && not b) + one_if b
  by_test true true = refl
  by_test true false = refl
  by_test false true = refl
  by_test false false = refl

pub in_none : (q : List ℕ) → one_if (is_in q []) ≡ 0
unfolding is_in
in_none q = refl

-- where one of the others says that an item is in a set, it is not counted in it
pub not_counted : (q set : List ℕ) (sets : List (List ℕ)) → is_in set sets ≡ true → (bytes_eq q set && not (is_in q sets)) ≡ false
not_counted q set sets h = by_test (bytes_eq q set) (λ same. ap (λ s. is_in s sets) ((bytes_eq-Decides q set).0 same) ∙ h) where
  by_test : (b : Bool) → (b ≡ true → is_in q sets ≡ true) → (b && not (is_in q sets)) ≡ false
  by_test true so = ap not (so refl)
  by_test false so = refl

pub just_counted : (q set : List ℕ) (sets : List (List ℕ)) → is_in set sets ≡ false → (bytes_eq q set && not (is_in q sets)) ≡ bytes_eq q set
just_counted q set sets h = by_test (bytes_eq q set) (λ same. ap (λ s. is_in s sets) ((bytes_eq-Decides q set).0 same) ∙ h) where
  by_test : (b : Bool) → (b ≡ true → is_in q sets ≡ false) → (b && not (is_in q sets)) ≡ b
  by_test true so = ap not (so refl)
  by_test false so = refl

-- ---- None and Some

pub on_some_map : {A : Type 0} (P Q : Type 0) (result : Option A) → (P → Q) → OnSome result P → OnSome result Q
on_some_map P Q (Some a) so h = so h
on_some_map P Q None so h = tt
