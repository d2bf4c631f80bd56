-- One list is changed, and the others stay as they are.
use Rattle.std.proofs.Common.{◌≡◌, ◌∙◌, ◌<◌, ℕ, ℤ, ◌+◌, zero, suc, true, cond, not, ◌&&◌, eqb, List, [], ◌∷◌, ◌++◌, Some, length, take, drop, get_or, set, refl, sym, ap, arith, IsSome}
use Rattle.std.specs.Prelude.{int_le, nat_lt, slice_get}
use Rattle.std.specs.List.{list_all}
use Rattle.std.specs.Ordering.{nat_cmp}
use Rattle.std.specs.declared.cmp.Ordering.TheVariants.{Less, Equal, Greater}
use Rattle.std.proofs.lemmas.Bool.{and_from, and_parts, cond-true, cond-false, cond_both, eq-eqb, false≢true, le-ltb, not-true}
use Rattle.std.proofs.lemmas.List.{map-append}
use Rattle.std.proofs.lemmas.Option.{get_or_from_slice_get, slice_get_read}
use Rattle.oai_names.proofs.Lists.{cut, set_cut}
use Rattle.oai_names.proofs.Numbered.{found_at}
use Rattle.oai_names.specs.Numbered.{is_lower}
use Rattle.oai_lists.specs.HeldTable.{IsHeldTable, IsListPlace, no_list_numbered}
use Rattle.oai_lists.specs.OpenLists.{are_numbered_lists, changed_one, has_list_number, list_number, with_change}
use Rattle.oai_lists.specs.declared.open_lists.OpenList.{OpenList}

-- the change leaves the number
abbrev pub KeepsNumber : (OpenList → OpenList) → Type 0
KeepsNumber change = (x : OpenList) → (change x).number ≡ x.number

pub changed_number : (number : ℕ) (change : OpenList → OpenList) → KeepsNumber change → (list : OpenList) → (changed_one number change list).number ≡ list.number
changed_number number change keeps list = cond_both (has_list_number number list) (change list) list (λ (x : OpenList). x.number ≡ list.number) (λ _. keeps list) (λ _. refl)

-- ---- the numbers still rise

before_changed : (number : ℕ) (change : OpenList → OpenList) → KeepsNumber change → (x : OpenList) (lists : List OpenList)
    → list_all (is_lower list_number (changed_one number change x)) (with_change number change lists) ≡ list_all (is_lower list_number x) lists
before_changed number change keeps x [] = refl
before_changed number change keeps x (y ∷ lists) =
    let here : is_lower list_number (changed_one number change x) (changed_one number change y) ≡ is_lower list_number x y =
    ap (λ n. nat_lt n (changed_one number change y).number) (changed_number number change keeps x) ∙ ap (nat_lt x.number) (changed_number number change keeps y)
    in
    ap (λ b. b && list_all (is_lower list_number (changed_one number change x)) (with_change number change lists)) here ∙ ap (λ b. is_lower list_number x y && b) (before_changed number change keeps x lists)

numbered_lists : (number : ℕ) (change : OpenList → OpenList) → KeepsNumber change → (lists : List OpenList) → are_numbered_lists (with_change number change lists) ≡ are_numbered_lists lists
numbered_lists number change keeps [] = refl
numbered_lists number change keeps (x ∷ lists) =
    ap (λ b. b && are_numbered_lists (with_change number change lists)) (before_changed number change keeps x lists)
    ∙ ap (λ b. list_all (is_lower list_number x) lists && b) (numbered_lists number change keeps lists)

given_numbers : (number next : ℕ) (change : OpenList → OpenList) → KeepsNumber change → (lists : List OpenList)
    → list_all (λ list. nat_lt list.number next) (with_change number change lists) ≡ list_all (λ list. nat_lt list.number next) lists
given_numbers number next change keeps [] = refl
given_numbers number next change keeps (x ∷ lists) =
    ap (λ n. nat_lt n next && list_all (λ list. nat_lt list.number next) (with_change number change lists)) (changed_number number change keeps x)
    ∙ ap (λ b. nat_lt x.number next && b) (given_numbers number next change keeps lists)

-- ---- the ends stay behind a moment

-- none ends before the lower moment: not as it is, and not after the change
abbrev pub EndsLater : ℤ → ℤ → (OpenList → OpenList) → Type 0
EndsLater earliest lower change = (x : OpenList) → int_le earliest x.end ≡ true → (int_le lower x.end ≡ true) × (int_le lower (change x).end ≡ true)

bound_changed : (number : ℕ) (change : OpenList → OpenList) (earliest lower : ℤ) → EndsLater earliest lower change → (lists : List OpenList)
    → list_all (λ list. int_le earliest list.end) lists ≡ true → list_all (λ list. int_le lower list.end) (with_change number change lists) ≡ true
bound_changed number change earliest lower later [] h = refl
bound_changed number change earliest lower later (x ∷ lists) h =
    let parts = and_parts (int_le earliest x.end) (list_all (λ list. int_le earliest list.end) lists) h in
    let both = later x parts.0 in
    and_from (int_le lower (changed_one number change x).end) (list_all (λ list. int_le lower list.end) (with_change number change lists))
    (cond_both (has_list_number number x) (change x) x (λ (y : OpenList). int_le lower y.end ≡ true) (λ _. both.1) (λ _. both.0))
    (bound_changed number change earliest lower later lists parts.1)

pub held_changed : (limit next number : ℕ) (change : OpenList → OpenList) (lists : List OpenList) (earliest lower : ℤ) → KeepsNumber change → EndsLater earliest lower change
    → IsHeldTable (record { limit = limit; next = next; lists = lists }) earliest → IsHeldTable (record { limit = limit; next = next; lists = with_change number change lists }) lower
held_changed limit next number change lists earliest lower keeps later held = record {
  numbers = record { numbered = numbered_lists number change keeps lists ∙ held.numbers.numbered; given = given_numbers number next change keeps lists ∙ held.numbers.given };
  bound = bound_changed number change earliest lower later lists held.bound;
}

-- ---- where the list stands

pub unchanged_lists : (number : ℕ) (change : OpenList → OpenList) (lists : List OpenList) → no_list_numbered number lists → with_change number change lists ≡ lists
unchanged_lists number change [] h = refl
unchanged_lists number change (x ∷ lists) h =
    let parts = and_parts (not (has_list_number number x)) (list_all (λ list. not (has_list_number number list)) lists) h in
    ap (λ y. y ∷ with_change number change lists) (cond-false (has_list_number number x) (change x) x (not-true _ parts.0)) ∙ ap (λ ys. x ∷ ys) (unchanged_lists number change lists parts.1)

-- the one list that is changed
pub change-placed : (number : ℕ) (change : OpenList → OpenList) (lists : List OpenList) (at : ℕ) (d : OpenList) → IsListPlace number lists (Some at) → with_change number change lists ≡ set lists at (change (get_or lists at d))
change-placed number change lists at d placed =
    let x : OpenList = get_or lists at d in
    let rest : List OpenList = drop (at + 1) lists in
    ap (with_change number change) (cut lists at d placed.0)
    ∙ map-append (changed_one number change) (take at lists) (x ∷ rest)
    ∙ ap (λ ys. ys ++ with_change number change (x ∷ rest)) (unchanged_lists number change (take at lists) placed.2)
    ∙ ap (λ y. take at lists ++ (y ∷ with_change number change rest)) (cond-true (has_list_number number x) (change x) x (placed.1 d))
    ∙ ap (λ ys. take at lists ++ (change x ∷ ys)) (unchanged_lists number change rest placed.3)
    ∙ sym (set_cut lists at (change x) placed.0)

-- a list that is there
pub within_some : (lists : List OpenList) (at : ℕ) → IsSome (slice_get lists at) → at < length lists
within_some [] at there = absurd (false≢true there)
within_some (x ∷ lists) zero there = omega arith
within_some (x ∷ lists) (suc at) there = let rest = within_some lists at there in omega (arith, rest)

pub at_place : (lists : List OpenList) (at : ℕ) (x list : OpenList) → at < length lists → x ≡ get_or lists at x → slice_get lists at ≡ Some list → x ≡ list
at_place lists at x list within is there = is ∙ get_or_from_slice_get lists at list x there

-- the list at a position stands at the place of its number
pub change-at : (change : OpenList → OpenList) (lists : List OpenList) (at : ℕ) (x : OpenList) → are_numbered_lists lists ≡ true → at < length lists → x ≡ get_or lists at x
    → with_change x.number change lists ≡ set lists at (change x)
change-at change lists at x rising within is =
    change-placed x.number change lists at x
    (found_at list_number x.number lists at rising within (λ d. ap (λ (y : OpenList). nat_cmp y.number x.number) (get_or_from_slice_get lists at x d (slice_get_read lists (length lists) at x refl within is)) ∙ itself x.number))
    ∙ ap (λ (y : OpenList). set lists at (change y)) (sym is)
  where
    itself : (n : ℕ) → nat_cmp n n ≡ Equal
    itself n = cond-false (nat_lt n n) Less (cond (eqb n n) Equal Greater) (le-ltb n n (omega arith)) ∙ cond-true (eqb n n) Equal Greater (eq-eqb n n refl)
