-- Which setSpecs stay where a list of them is reduced.
use Rattle.std.proofs.Common.{◌≡◌, ◌∙◌, ℕ, ◌+◌, ◌<◌, suc, zero, Bool, true, false, cond, not, ◌||◌, ◌&&◌, List, [], ◌∷◌, ◌++◌, inl, inr, Some, length, take, get_or, refl, sym, ap, subst}
use Rattle.std.specs.List.{filter, list_any, slice_get}
use Rattle.std.specs.Str.{bytes_eq}
use Rattle.std.proofs.lemmas.Bool.{and_from, and_left, and_parts, cases_Bool, both_ways, cond-true, cond-false, false≢true, false_from_ne_true, not-true, not_from_true, not_from_false, or_cases, or_from, or_left, or_parts, or_right}
use Rattle.std.proofs.lemmas.Cmp.{nat_list_eq_equiv}
use Rattle.std.proofs.lemmas.List.{take_more}
use Rattle.std.proofs.lemmas.List.Elements.{filter-append}
use Rattle.std.proofs.lemmas.Map.Views.{any-filter_same}
use Rattle.std.proofs.lemmas.Option.{none-some, same_Some}
use Rattle.std.proofs.lemmas.Slice.Eq.{bytes_eq-Decides}
use Rattle.oai_item.specs.Rules.{has_repeat}
use Rattle.oai_names.specs.Sets.{covers}
use Rattle.oai_item.specs.Membership.{NoneCovers, distinct, is_above, reduced}

-- the text is one of these
abbrev pub Has : List (List ℕ) → List ℕ → Type 0
Has texts t = list_any (bytes_eq t) texts ≡ true

pub bytes_eq_itself : (t : List ℕ) → bytes_eq t t ≡ true
bytes_eq_itself t = (bytes_eq-Decides t t).1 refl

-- a test that some text passes is passed by one that is found
pub any_has : (test : List ℕ → Bool) (texts : List (List ℕ)) → list_any test texts ≡ true → (t : List ℕ) × Has texts t × (test t ≡ true)
any_has test [] h = absurd (false≢true h)
any_has test (x ∷ texts) h =
    elim (or_cases (test x) (list_any test texts) h) [
      | inl here ↦ (x, or_left _ _ (bytes_eq_itself x), here)
      | inr later ↦ let w = any_has test texts later in (w.0, or_right _ _ w.1, w.2)
    ]

pub has_any : (test : List ℕ → Bool) (texts : List (List ℕ)) (t : List ℕ) → Has texts t → test t ≡ true → list_any test texts ≡ true
has_any test [] t h passes = absurd (false≢true h)
has_any test (x ∷ texts) t h passes =
    elim (or_cases (bytes_eq t x) (list_any (bytes_eq t) texts) h) [
      | inl here ↦ or_left _ _ (ap test (sym ((bytes_eq-Decides t x).0 here)) ∙ passes)
      | inr later ↦ or_right _ _ (has_any test texts t later passes)
    ]

-- a filter keeps a text exactly where the text passes
pub has_filter : (test : List ℕ → Bool) (texts : List (List ℕ)) (t : List ℕ) → list_any (bytes_eq t) (filter test texts) ≡ (test t && list_any (bytes_eq t) texts)
has_filter test texts t = any-filter_same (bytes_eq t) test (test t) (λ k same. ap test (sym ((bytes_eq-Decides t k).0 same))) texts

absorbs : (here kept later : Bool) → (here ≡ false → kept ≡ true) → (here || (kept && later)) ≡ (here || later)
absorbs true kept later h = refl
absorbs false kept later h = rw (h refl) refl

-- `distinct` has the same texts
pub has_distinct : (texts : List (List ℕ)) (t : List ℕ) → list_any (bytes_eq t) (distinct texts) ≡ list_any (bytes_eq t) texts
unfolding distinct
has_distinct [] t = refl
has_distinct (x ∷ texts) t =
    ap (λ b. bytes_eq t x || b) (has_filter (λ k. not (bytes_eq x k)) (distinct texts) t)
    ∙ absorbs (bytes_eq t x) (not (bytes_eq x t)) (list_any (bytes_eq t) (distinct texts)) (λ other. not_from_false _ (nat_list_eq_equiv.symm x t ∙ other))
    ∙ ap (λ b. bytes_eq t x || b) (has_distinct texts t)

-- a text stays exactly where it is one of the texts, and above none of them
pub has_reduced : (sets : List (List ℕ)) (t : List ℕ) → list_any (bytes_eq t) (reduced sets) ≡ (not (list_any (is_above t) sets) && list_any (bytes_eq t) sets)
unfolding reduced
has_reduced sets t =
    has_filter (λ s. not (list_any (is_above s) sets)) (distinct sets) t
    ∙ ap (λ b. not (list_any (is_above t) sets) && b) (has_distinct sets t)

and_false : (b : Bool) → (b && false) ≡ false
and_false true = refl
and_false false = refl

-- a filter makes no repetition
repeats_in_filter : (test : List ℕ → Bool) (texts : List (List ℕ)) → has_repeat texts ≡ false → has_repeat (filter test texts) ≡ false
repeats_in_filter test [] none = refl
repeats_in_filter test (x ∷ texts) none =
    let parts = or_parts (list_any (bytes_eq x) texts) (has_repeat texts) none in
    let later : has_repeat (filter test texts) ≡ false = repeats_in_filter test texts parts.1 in
    let here : list_any (bytes_eq x) (filter test texts) ≡ false = has_filter test texts x ∙ ap (λ b. test x && b) parts.0 ∙ and_false (test x) in
    elim (cases_Bool (test x)) [
      | inl passes ↦ ap has_repeat (cond-true (test x) (x ∷ filter test texts) (filter test texts) passes) ∙ or_from _ _ here later
      | inr fails ↦ ap has_repeat (cond-false (test x) (x ∷ filter test texts) (filter test texts) fails) ∙ later
    ]

repeats_in_distinct : (texts : List (List ℕ)) → has_repeat (distinct texts) ≡ false
unfolding distinct
repeats_in_distinct [] = refl
repeats_in_distinct (x ∷ texts) =
    or_from _ _
    (has_filter (λ k. not (bytes_eq x k)) (distinct texts) x ∙ and_left _ _ (not_from_true _ (bytes_eq_itself x)))
    (repeats_in_filter (λ k. not (bytes_eq x k)) (distinct texts) (repeats_in_distinct texts))

repeats_in_reduced : (sets : List (List ℕ)) → has_repeat (reduced sets) ≡ false
unfolding reduced
repeats_in_reduced sets = repeats_in_filter (λ s. not (list_any (is_above s) sets)) (distinct sets) (repeats_in_distinct sets)

has_at : (texts : List (List ℕ)) (i : ℕ) (t : List ℕ) → slice_get texts i ≡ Some t → Has texts t
has_at [] i t at = absurd (none-some t at)
has_at (x ∷ texts) zero t at = or_left _ _ ((bytes_eq-Decides t x).1 (sym (same_Some x t at)))
has_at (x ∷ texts) (suc i) t at = or_right _ _ (has_at texts i t at)

once : (texts : List (List ℕ)) (i j : ℕ) (t : List ℕ) → has_repeat texts ≡ false → slice_get texts i ≡ Some t → slice_get texts j ≡ Some t → i ≡ j
once [] i j t none at_i at_j = absurd (none-some t at_i)
once (x ∷ texts) zero zero t none at_i at_j = refl
once (x ∷ texts) zero (suc j) t none at_i at_j =
    let repeated : list_any (bytes_eq x) texts ≡ true = subst (Has texts) (sym (same_Some x t at_i)) (has_at texts j t at_j) in
    absurd (both_ways _ (or_parts _ _ none).0 repeated)
once (x ∷ texts) (suc i) zero t none at_i at_j =
    let repeated : list_any (bytes_eq x) texts ≡ true = subst (Has texts) (sym (same_Some x t at_j)) (has_at texts i t at_i) in
    absurd (both_ways _ (or_parts _ _ none).0 repeated)
once (x ∷ texts) (suc i) (suc j) t none at_i at_j = ap suc (once texts i j t (or_parts _ _ none).1 at_i at_j)

-- a setSpec that stays is one of the sets, and above none of them
stays : (sets : List (List ℕ)) (t : List ℕ) → Has (reduced sets) t → (list_any (is_above t) sets ≡ false) × Has sets t
stays sets t h =
    let parts = and_parts (not (list_any (is_above t) sets)) (list_any (bytes_eq t) sets) (sym (has_reduced sets t) ∙ h) in
    (not-true _ parts.0, parts.1)

above_from : (s t : List ℕ) → covers s t ≡ true → bytes_eq s t ≡ false → is_above s t ≡ true
unfolding is_above
above_from s t covering other = and_from _ _ covering (not_from_false _ other)

-- of setSpecs that stand once each, and are above none of them, neither of two covers the other
pub apart_from : (sets : List (List ℕ)) → has_repeat sets ≡ false → ((s t : List ℕ) → Has sets s → Has sets t → is_above s t ≡ false) → NoneCovers sets
apart_from sets single free i j s t at_i at_j apart =
    false_from_ne_true (covers s t) (λ covering. elim (cases_Bool (bytes_eq s t)) [
      | inl same ↦ apart (once sets i j s single at_i (at_j ∙ ap (λ u. Some u) (sym ((bytes_eq-Decides s t).0 same))))
      | inr other ↦ both_ways _ (free s t (has_at _ i s at_i) (has_at _ j t at_j)) (above_from s t covering other)
    ])

-- of two setSpecs that stay neither covers the other
pub reduced_apart : (sets : List (List ℕ)) → NoneCovers (reduced sets)
reduced_apart sets =
    apart_from (reduced sets) (repeats_in_reduced sets) (λ s t has_s has_t.
    false_from_ne_true _ (λ above. both_ways _ (stays sets s has_s).0 (has_any (is_above s) sets t (stays sets t has_t).1 above)))

one_if : (b : Bool) (s : List ℕ) → cond b (s ∷ []) [] ≡ cond (not b) [] (s ∷ [])
one_if true s = refl
one_if false s = refl

unless_one : (test : List ℕ → Bool) (b : Bool) (s : List ℕ) → filter test (cond b [] (s ∷ [])) ≡ cond (b || not (test s)) [] (s ∷ [])
unless_one test true s = refl
unless_one test false s = one_if (test s) s

or_turned : (b e : Bool) → (b || not (not e)) ≡ (e || b)
or_turned true true = refl
or_turned true false = refl
or_turned false true = refl
or_turned false false = refl

-- one more text, which stays where it is new
distinct_push : (texts : List (List ℕ)) (s : List ℕ) → distinct (texts ++ s ∷ []) ≡ distinct texts ++ cond (list_any (bytes_eq s) texts) [] (s ∷ [])
unfolding distinct
distinct_push [] s = refl
distinct_push (x ∷ texts) s =
    let seen : Bool = list_any (bytes_eq s) texts in
    let test : List ℕ → Bool = λ t. not (bytes_eq x t) in
    ap (λ ys. x ∷ filter test ys) (distinct_push texts s)
    ∙ ap (λ ys. x ∷ ys) (filter-append test (distinct texts) (cond seen [] (s ∷ [])))
    ∙ ap (λ ys. x ∷ (filter test (distinct texts) ++ ys)) (unless_one test seen s)
    ∙ ap (λ b. x ∷ (filter test (distinct texts) ++ cond b [] (s ∷ []))) (or_turned seen (bytes_eq x s) ∙ ap (λ b. b || seen) (nat_list_eq_equiv.symm x s))

or_not_not : (a b : Bool) → (a || not (not b)) ≡ (a || b)
or_not_not true b = refl
or_not_not false true = refl
or_not_not false false = refl

-- one more setSpec, which stays where it is new and not to be left out
pub kept_push : (out : List ℕ → Bool) (texts : List (List ℕ)) (s : List ℕ) → filter (λ t. not (out t)) (distinct (texts ++ s ∷ [])) ≡ filter (λ t. not (out t)) (distinct texts) ++ cond (list_any (bytes_eq s) texts || out s) [] (s ∷ [])
kept_push out texts s =
    let seen : Bool = list_any (bytes_eq s) texts in
    ap (filter (λ t. not (out t))) (distinct_push texts s)
    ∙ filter-append (λ t. not (out t)) (distinct texts) (cond seen [] (s ∷ []))
    ∙ ap (λ ys. filter (λ t. not (out t)) (distinct texts) ++ ys) (unless_one (λ t. not (out t)) seen s ∙ ap (λ b. cond b [] (s ∷ [])) (or_not_not seen (out s)))

cond_not : (b : Bool) (s : List ℕ) (kept : Bool) → kept ≡ not b → cond b [] (s ∷ []) ≡ cond kept (s ∷ []) []
cond_not true s kept h = rw h refl
cond_not false s kept h = rw h refl

-- the same along a list: the setSpec at i stays where that test says so
pub kept_more : (out : List ℕ → Bool) (texts : List (List ℕ)) (i : ℕ) (d : List ℕ) (kept : Bool) → i < length texts
    → kept ≡ not (list_any (bytes_eq (get_or texts i d)) (take i texts) || out (get_or texts i d))
    → filter (λ t. not (out t)) (distinct (take (i + 1) texts)) ≡ filter (λ t. not (out t)) (distinct (take i texts)) ++ cond kept (get_or texts i d ∷ []) []
kept_more out texts i d kept within is =
    let s : List ℕ = get_or texts i d in
    ap (λ ts. filter (λ t. not (out t)) (distinct ts)) (take_more texts i d within)
    ∙ kept_push out (take i texts) s
    ∙ ap (λ ys. filter (λ t. not (out t)) (distinct (take i texts)) ++ ys) (cond_not (list_any (bytes_eq s) (take i texts) || out s) s kept is)
