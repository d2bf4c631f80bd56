-- Which lists have ended, and what is kept of the others.
use Rattle.std.proofs.Common.{◌≡◌, ◌-◌, ◌&&◌, ◌≢◌, ◌∙◌, ℕ, ℤ, ◌+◌, ◌<◌, ◌≤◌, ◌<ℤ◌, ◌≤ℤ◌, inl, inr, ◌⊎◌, Bool, true, false, not, cond, eqb, List, [], ◌∷◌, ◌++◌, Option, None, Some, Ok, Err, length, take, drop, get_or, refl, sym, ap, subst, arith, add-one, unwrap_or, append-nil}
use Rattle.std.specs.Prelude.{find, int_le, int_lt, nat_lt, nat_le, position, slice_get}
use Rattle.std.specs.Int.{int_min}
use Rattle.std.specs.List.{after_first, before_first, list_all, position_or_len, remove}
use Rattle.std.proofs.lemmas.Bool.{and_from, and_parts, cond-true, cond-false, cond_both, cases_Bool, eqb-false, le-leb, lt-leb, lt-ltb, ltb-true, not-true, not_from_false}
use Rattle.std.proofs.lemmas.Int.{ints}
use Rattle.std.proofs.lemmas.List.{drop_all, get_or-take, get_or_default, length-take-le, take_all, take_more}
use Rattle.std.proofs.lemmas.List.Elements.{All-nil, All-push, All-weaker, Contains-append_left, Contains-push, filter-append}
use Rattle.std.proofs.lemmas.List.Folds.{list_all-append}
use Rattle.std.proofs.lemmas.List.Quantifiers.{position-Some}
use Rattle.std.proofs.lemmas.List.Sums.{AllPass-from_list_all, list_all-from_AllPass, position_or_len_is}
use Rattle.oai_lists.specs.HeldTable.{IsHeldTable, earlier}
use Rattle.oai_lists.specs.OpenLists.{IsEarliest, IsListOpening, Table, may_reopen, number_or_fault, are_numbered_lists, has_ended, is_open, list_number, open_fault, open_ones, with_opened, with_reopened}
use Rattle.oai_lists.specs.declared.lists.OpenListFault.{OpenListFault}
use Rattle.oai_lists.specs.declared.lists.OpenListFault.TheVariants.{Full, NumbersSpent}
use Rattle.oai_lists.specs.declared.open_lists.OpenList.{OpenList}
use Rattle.oai_lists.specs.declared.lists.TheConstants.{LAST_NUMBER}
use Rattle.oai_names.specs.Numbered.{is_lower}
use Rattle.oai_names.proofs.Lists.{all-weaker, cut, filter_all, find_past}
use Rattle.oai_names.proofs.Numbered.{rise-append, rise-join}

-- ---- numbers of moments

ended_not : (earliest now : ℤ) (list : OpenList) → now <ℤ earliest → int_le earliest list.end ≡ true → not (has_ended now list) ≡ true
ended_not earliest now list early bound = let e : has_ended now list ≡ false = grind (arith, ints) in not_from_false _ e

open_yet : (earliest now : ℤ) (list : OpenList) → now <ℤ earliest → int_le earliest list.end ≡ true → is_open now list ≡ true
open_yet earliest now list early bound = grind (arith, ints)

lasts_yet : (now : ℤ) (list : OpenList) → not (has_ended now list) ≡ true → is_open now list ≡ true
lasts_yet now list h = grind (arith, ints)

le_test : (a b : ℤ) → a ≤ℤ b → int_le a b ≡ true
le_test a b h = grind (arith, ints)

below : (b a c : ℤ) → int_lt b a ≡ true → int_le a c ≡ true → int_le b c ≡ true
below b a c h g = grind (arith, ints)

not_below : (a b : ℤ) → int_lt b a ≡ false → int_le a b ≡ true
not_below a b h = grind (arith, ints)

itself_le : (a : ℤ) → int_le a a ≡ true
itself_le a = grind (arith, ints)

pub min_left : (a b c : ℤ) → int_le a c ≡ true → int_le (int_min a b) c ≡ true
min_left a b c h = cond_both (int_lt b a) b a (λ m. int_le m c ≡ true) (λ less. let l : int_lt b a ≡ true = less in below b a c l h) (λ _. h)

pub min_right : (a b : ℤ) → int_le (int_min a b) b ≡ true
min_right a b = cond_both (int_lt b a) b a (λ m. int_le m b ≡ true) (λ _. itself_le b) (λ least. not_below a b least)

-- ---- which lists have ended

pub none_ended : (earliest now : ℤ) (lists : List OpenList) → list_all (λ list. int_le earliest list.end) lists ≡ true → now <ℤ earliest → list_all (λ list. not (has_ended now list)) lists ≡ true
none_ended earliest now lists bound early =
    all-weaker (λ (list : OpenList). int_le earliest list.end) (λ list. not (has_ended now list)) (λ list h. ended_not earliest now list early h) lists bound

pub all_open : (earliest now : ℤ) (lists : List OpenList) → list_all (λ list. int_le earliest list.end) lists ≡ true → now <ℤ earliest → open_ones now lists ≡ lists
all_open earliest now lists bound early =
    filter_all (is_open now) lists (all-weaker (λ (list : OpenList). int_le earliest list.end) (is_open now) (λ list h. open_yet earliest now list early h) lists bound)

pub fewer_open : (now : ℤ) (lists : List OpenList) → length (open_ones now lists) ≤ length lists
fewer_open now [] = omega arith
fewer_open now (x ∷ lists) =
    cond_both (is_open now x) (x ∷ open_ones now lists) (open_ones now lists) (λ ys. length ys ≤ length (x ∷ lists))
    (λ _. omega (arith, fewer_open now lists)) (λ _. omega (arith, fewer_open now lists))

pub not_full : (limit : ℕ) (now : ℤ) (lists : List OpenList) → length lists < limit → nat_le limit (length (open_ones now lists)) ≡ false
not_full limit now lists few = lt-leb limit (length (open_ones now lists)) (omega (arith, fewer_open now lists))

pub full : (limit : ℕ) (earliest now : ℤ) (lists : List OpenList) → list_all (λ list. int_le earliest list.end) lists ≡ true → now <ℤ earliest → limit ≤ length lists → nat_le limit (length (open_ones now lists)) ≡ true
full limit earliest now lists bound early many = le-leb limit (length (open_ones now lists)) (omega (arith, ap length (all_open earliest now lists bound early)))

-- ---- the first that passes

past_all : (p : OpenList → Bool) (lists : List OpenList) → list_all (λ list. not (p list)) lists ≡ true → position_or_len p lists ≡ length lists
past_all p [] h = refl
past_all p (x ∷ lists) h =
    position_or_len_is p (x ∷ lists) (length (x ∷ lists)) x (omega arith)
    (λ k within. not-true _ (AllPass-from_list_all (λ list. not (p list)) (x ∷ lists) h k x within))
    (λ past. absurd (omega arith))

-- where none passes, all are kept
pub none_left : (p : OpenList → Bool) (lists : List OpenList) → list_all (λ list. not (p list)) lists ≡ true → before_first p lists ++ after_first p lists ≡ lists
none_left p lists h =
    ap (λ n. take n lists ++ drop (n + 1) lists) (past_all p lists h)
    ∙ ap (λ ys. ys ++ drop (length lists + 1) lists) (take_all (length lists) lists (omega arith))
    ∙ ap (λ ys. lists ++ ys) (drop_all (length lists + 1) lists (omega arith))
    ∙ append-nil lists

-- where a place was found, it is the first
pub first_place : (p : OpenList → Bool) (lists : List OpenList) (at : ℕ) → position p lists ≡ Some at → (at < length lists) × (position_or_len p lists ≡ at)
first_place p lists at h =
    elim (cases_Bool (nat_lt (position_or_len p lists) (length lists))) [
      | inl within ↦
          let e : position p lists ≡ Some (position_or_len p lists) = cond-true (nat_lt (position_or_len p lists) (length lists)) (Some (position_or_len p lists)) None within in
          let same : position_or_len p lists ≡ at = cc in
          (omega (arith, same, ltb-true (position_or_len p lists) (length lists) within), same)
      | inr past ↦
          let e : position p lists ≡ None = cond-false (nat_lt (position_or_len p lists) (length lists)) (Some (position_or_len p lists)) None past in
          cc
    ]

front_fails : (p : OpenList → Bool) (lists : List OpenList) (at : ℕ) (d : OpenList) → at < length lists → ((k : ℕ) → k < at → p (get_or lists k d) ≡ false) → list_all (λ list. not (p list)) (take at lists) ≡ true
front_fails p lists at d within h =
    list_all-from_AllPass (λ list. not (p list)) (take at lists)
    (λ k e below.
    let inside : k < at = omega (arith, length-take-le at lists) in
    ap (λ list. not (p list)) (get_or-take at lists k e inside ∙ get_or_default lists k e d (omega arith)) ∙ not_from_false _ (h k inside))

pub found_first : (p : OpenList → Bool) (lists : List OpenList) (at : ℕ) (d : OpenList) → position p lists ≡ Some at → find p lists ≡ Some (get_or lists at d)
found_first p lists at d h =
    let place = position-Some p lists at d h in
    let x : OpenList = get_or lists at d in
    ap (find p) (cut lists at d place.0)
    ∙ find_past p (take at lists) (x ∷ drop (at + 1) lists) (front_fails p lists at d place.0 place.2)
    ∙ cond-true (p x) (Some x) (find p (drop (at + 1) lists)) place.1

pub first_left : (p : OpenList → Bool) (lists : List OpenList) (at : ℕ) → position p lists ≡ Some at → remove lists at ≡ before_first p lists ++ after_first p lists
first_left p lists at h =
    let e : position_or_len p lists ≡ at = (first_place p lists at h).1 in
    ap (λ n. take at lists ++ drop n lists) (sym (add-one at)) ∙ sym (ap (λ n. take n lists ++ drop (n + 1) lists) e)

none_more : (p : OpenList → Bool) (x : OpenList) (lists : List OpenList) → position p (x ∷ lists) ≡ None → (p x ≡ false) × (position p lists ≡ None)
none_more p x lists h =
    let n : ℕ = position_or_len p lists in
    elim (cases_Bool (p x)) [
      | inl passes ↦
          let here : position_or_len p (x ∷ lists) ≡ 0 = cond-false (not (p x)) (1 + n) 0 (ap not passes) in
          let found : position p (x ∷ lists) ≡ Some 0 = ap (λ m. cond (nat_lt m (length (x ∷ lists))) (Some m) None) here ∙ cond-true (nat_lt 0 (length (x ∷ lists))) (Some 0) None (lt-ltb 0 (length (x ∷ lists)) (omega arith)) in
          cc
      | inr fails ↦
          let later : position_or_len p (x ∷ lists) ≡ 1 + n = cond-true (not (p x)) (1 + n) 0 (ap not fails) in
          elim (cases_Bool (nat_lt n (length lists))) [
            | inl within ↦
                let found : position p (x ∷ lists) ≡ Some (1 + n) = ap (λ m. cond (nat_lt m (length (x ∷ lists))) (Some m) None) later ∙ cond-true (nat_lt (1 + n) (length (x ∷ lists))) (Some (1 + n)) None (lt-ltb (1 + n) (length (x ∷ lists)) (omega (arith, ltb-true n (length lists) within))) in
                cc
            | inr past ↦ (fails, cond-false (nat_lt n (length lists)) (Some n) None past)
          ]
    ]

pub none_passes : (p : OpenList → Bool) (lists : List OpenList) → position p lists ≡ None → list_all (λ list. not (p list)) lists ≡ true
none_passes p [] h = refl
none_passes p (x ∷ lists) h =
    let parts = none_more p x lists h in
    and_from (not (p x)) (list_all (λ list. not (p list)) lists) (not_from_false (p x) parts.0) (none_passes p lists parts.1)

-- where none has ended, all are open
pub all_last : (now : ℤ) (lists : List OpenList) → list_all (λ list. not (has_ended now list)) lists ≡ true → open_ones now lists ≡ lists
all_last now lists none = filter_all (is_open now) lists (all-weaker (λ (list : OpenList). not (has_ended now list)) (is_open now) (λ list h. lasts_yet now list h) lists none)

-- ---- the earliest end

open_taken : (now : ℤ) (lists : List OpenList) (i : ℕ) (x : OpenList) → i < length lists → x ≡ get_or lists i x → open_ones now (take (i + 1) lists) ≡ open_ones now (take i lists) ++ open_ones now (x ∷ [])
open_taken now lists i x within is =
    ap (open_ones now) (take_more lists i x within ∙ ap (λ (y : OpenList). take i lists ++ y ∷ []) (sym is)) ∙ filter-append (is_open now) (take i lists) (x ∷ [])

pub earliest_bounds : (lists : List OpenList) (end : Option ℤ) (d : ℤ) → IsEarliest lists end → list_all (λ list. int_le (unwrap_or end d) list.end) lists ≡ true
earliest_bounds lists None d h = ap (list_all (λ list. int_le d list.end)) h
earliest_bounds lists (Some end) d h = list_all-from_AllPass (λ list. int_le end list.end) lists (λ k e within. le_test end (get_or lists k e).end (h.1 k e within))

to_test : (a b : ℤ) → int_lt a b ≡ true → a ≤ℤ b
to_test a b h = grind (arith, ints)

to_other : (a b : ℤ) → int_lt a b ≡ false → b ≤ℤ a
to_other a b h = grind (arith, ints)

itself_below : (a : ℤ) → a ≤ℤ a
itself_below a = grind (arith, ints)

below_both : (a b c : ℤ) → a ≤ℤ b → b ≤ℤ c → a ≤ℤ c
below_both a b c h g = omega (arith, ints)

-- one more list
pub earliest_pushed : (lists : List OpenList) (end : Option ℤ) (x : OpenList) → IsEarliest lists end → IsEarliest (lists ++ x ∷ []) (Some (earlier end x.end))
earliest_pushed lists None x none =
    subst (λ (ls : List OpenList). IsEarliest (ls ++ x ∷ []) (Some x.end)) (sym none)
    ((x, Contains-push [] x, refl), All-push (λ (list : OpenList). x.end ≤ℤ list.end) [] x (All-nil (λ (list : OpenList). x.end ≤ℤ list.end)) (itself_below x.end))
earliest_pushed lists (Some end) x is =
    cond_both (int_lt x.end end) x.end end (λ m. IsEarliest (lists ++ x ∷ []) (Some m))
    (λ less. (
      (x, Contains-push lists x, refl),
      All-push (λ (list : OpenList). x.end ≤ℤ list.end) lists x
          (All-weaker (λ (list : OpenList). end ≤ℤ list.end) (λ (list : OpenList). x.end ≤ℤ list.end) (λ list h. below_both x.end end list.end (to_test x.end end less) h) lists is.1)
          (itself_below x.end),
    ))
    (λ least. (
      (is.0.0, Contains-append_left lists (x ∷ []) is.0.0 is.0.1, is.0.2),
      All-push (λ (list : OpenList). end ≤ℤ list.end) lists x is.1 (to_other x.end end least),
    ))

-- one list more is looked at, which is open, or has ended
pub earliest_more : (now : ℤ) (lists : List OpenList) (i : ℕ) (x : OpenList) (end : Option ℤ) → i < length lists → x ≡ get_or lists i x → is_open now x ≡ true → IsEarliest (open_ones now (take i lists)) end
    → IsEarliest (open_ones now (take (i + 1) lists)) (Some (earlier end x.end))
earliest_more now lists i x end within is lasts so_far =
    subst (λ (ls : List OpenList). IsEarliest ls (Some (earlier end x.end)))
    (sym (open_taken now lists i x within is ∙ ap (λ ls. open_ones now (take i lists) ++ ls) (cond-true (is_open now x) (x ∷ []) [] lasts)))
    (earliest_pushed (open_ones now (take i lists)) end x so_far)

pub earliest_kept : (now : ℤ) (lists : List OpenList) (i : ℕ) (x : OpenList) (end : Option ℤ) → i < length lists → x ≡ get_or lists i x → is_open now x ≡ false → IsEarliest (open_ones now (take i lists)) end
    → IsEarliest (open_ones now (take (i + 1) lists)) end
earliest_kept now lists i x end within is over so_far =
    subst (λ (ls : List OpenList). IsEarliest ls end)
    (sym (open_taken now lists i x within is ∙ ap (λ ls. open_ones now (take i lists) ++ ls) (cond-false (is_open now x) (x ∷ []) [] over) ∙ append-nil (open_ones now (take i lists))))
    so_far

-- ---- what a table keeps

-- one more list, of a number above theirs
pub held_more : (table : Table) (earliest : ℤ) (next : ℕ) (list : OpenList) → IsHeldTable table earliest → list_all (λ (other : OpenList). nat_lt other.number list.number) table.lists ≡ true
    → table.next ≤ next → list.number < next → IsHeldTable (record { limit = table.limit; next = next; lists = table.lists ++ list ∷ [] }) (int_min earliest list.end)
held_more table earliest next list held above higher below = record {
  numbers = record {
    numbered = rise-join list_number table.lists (list ∷ []) held.numbers.numbered refl
        (all-weaker (λ (other : OpenList). nat_lt other.number list.number) (λ other. list_all (is_lower list_number other) (list ∷ []))
        (λ other low. and_from (is_lower list_number other list) true low refl)
        table.lists above);
    given = list_all-append (λ other. nat_lt other.number next) table.lists (list ∷ [])
        ∙ and_from _ _
        (all-weaker (λ (other : OpenList). nat_lt other.number table.next) (λ other. nat_lt other.number next) (λ other low. lt-ltb other.number next (omega (arith, higher, ltb-true other.number table.next low))) table.lists held.numbers.given)
        (and_from (nat_lt list.number next) true (lt-ltb list.number next below) refl);
  };
  bound = list_all-append (λ other. int_le (int_min earliest list.end) other.end) table.lists (list ∷ [])
      ∙ and_from _ _
      (all-weaker (λ (other : OpenList). int_le earliest other.end) (λ other. int_le (int_min earliest list.end) other.end) (λ other low. min_left earliest list.end other.end low) table.lists held.bound)
      (and_from (int_le (int_min earliest list.end) list.end) true (min_right earliest list.end) refl);
}

-- of the next number
pub held_push : (table : Table) (earliest : ℤ) (list : OpenList) → IsHeldTable table earliest → list.number ≡ table.next → IsHeldTable (with_opened table list) (int_min earliest list.end)
held_push table earliest list held same =
    held_more table earliest (table.next + 1) list held
    (subst (λ (n : ℕ). list_all (λ (other : OpenList). nat_lt other.number n) table.lists ≡ true) (sym same) held.numbers.given)
    (omega arith) (omega (arith, same))

-- of a number that a list may be put back with
pub held_reopened : (table : Table) (earliest : ℤ) (list : OpenList) → IsHeldTable table earliest → may_reopen table list.number ≡ true → IsHeldTable (with_reopened table list) (int_min earliest list.end)
held_reopened table earliest list held may =
    let tests = and_parts (list_all (λ (other : OpenList). nat_lt other.number list.number) table.lists) (nat_lt list.number table.next) may in
    held_more table earliest table.next list held tests.0 (omega arith) (ltb-true list.number table.next tests.1)

-- a number above the last one is above all
above_at : (x : OpenList) (lists : List OpenList) (n : ℕ) (last : OpenList) → are_numbered_lists (x ∷ lists) ≡ true → slice_get (x ∷ lists) (length lists) ≡ Some last
    → list_all (λ (list : OpenList). nat_lt list.number n) (x ∷ lists) ≡ nat_lt last.number n
above_at x [] n last rises is =
    let same : x ≡ last = cc in
    and_last (nat_lt x.number n) ∙ ap (λ (list : OpenList). nat_lt list.number n) same
  where
    and_last : (b : Bool) → (b && true) ≡ b
    and_last true = refl
    and_last false = refl
above_at x (y ∷ lists) n last rises is =
    let parts = and_parts (list_all (is_lower list_number x) (y ∷ lists)) (are_numbered_lists (y ∷ lists)) rises in
    let rest : list_all (λ (list : OpenList). nat_lt list.number n) (y ∷ lists) ≡ nat_lt last.number n = above_at y lists n last parts.1 is in
    elim (cases_Bool (nat_lt last.number n)) [
      | inl above ↦
          let ahead = and_parts (is_lower list_number x y) (list_all (is_lower list_number x) lists) parts.0 in
          let next = and_parts (nat_lt y.number n) (list_all (λ (list : OpenList). nat_lt list.number n) lists) (rest ∙ above) in
          and_from (nat_lt x.number n) (list_all (λ (list : OpenList). nat_lt list.number n) (y ∷ lists))
          (lt-ltb x.number n (omega (arith, ltb-true x.number y.number ahead.0, ltb-true y.number n next.0)))
          (rest ∙ above)
          ∙ sym above
      | inr not_above ↦ ap (λ b. nat_lt x.number n && b) (rest ∙ not_above) ∙ and_false (nat_lt x.number n) ∙ sym not_above
    ]
  where
    and_false : (b : Bool) → (b && false) ≡ false
    and_false true = refl
    and_false false = refl

pub last_above : (lists : List OpenList) (n : ℕ) (last : OpenList) → are_numbered_lists lists ≡ true → slice_get lists (length lists - 1) ≡ Some last
    → list_all (λ (list : OpenList). nat_lt list.number n) lists ≡ nat_lt last.number n
last_above [] n last rises is = cc
last_above (x ∷ lists) n last rises is =
    let place : length (x ∷ lists) - 1 ≡ length lists = omega arith in
    above_at x lists n last rises (ap (slice_get (x ∷ lists)) (sym place) ∙ is)

-- one list less
all-removed : (p : OpenList → Bool) (lists : List OpenList) (at : ℕ) (d : OpenList) → at < length lists → list_all p lists ≡ true → list_all p (remove lists at) ≡ true
all-removed p lists at d within h =
    let x : OpenList = get_or lists at d in
    let whole : list_all p (take at lists ++ (x ∷ drop (at + 1) lists)) ≡ true = ap (list_all p) (sym (cut lists at d within)) ∙ h in
    let parts = and_parts (list_all p (take at lists)) (list_all p (x ∷ drop (at + 1) lists)) (sym (list_all-append p (take at lists) (x ∷ drop (at + 1) lists)) ∙ whole) in
    ap (λ n. list_all p (take at lists ++ drop n lists)) (sym (add-one at))
    ∙ list_all-append p (take at lists) (drop (at + 1) lists)
    ∙ and_from _ _ parts.0 (and_parts (p x) (list_all p (drop (at + 1) lists)) parts.1).1

numbered-removed : (lists : List OpenList) (at : ℕ) (d : OpenList) → at < length lists → are_numbered_lists lists ≡ true → are_numbered_lists (remove lists at) ≡ true
numbered-removed lists at d within h =
    let x : OpenList = get_or lists at d in
    let rest : List OpenList = drop (at + 1) lists in
    let parts = rise-append list_number (take at lists) (x ∷ rest) (ap are_numbered_lists (sym (cut lists at d within)) ∙ h) in
    ap (λ n. are_numbered_lists (take at lists ++ drop n lists)) (sym (add-one at))
    ∙ rise-join list_number (take at lists) rest parts.0 (and_parts (list_all (is_lower list_number x) rest) (are_numbered_lists rest) parts.1).1
    (all-weaker (λ (y : OpenList). list_all (is_lower list_number y) (x ∷ rest)) (λ y. list_all (is_lower list_number y) rest) (λ y ahead. (and_parts (is_lower list_number y x) (list_all (is_lower list_number y) rest) ahead).1) (take at lists) parts.2)

held_at : (table : Table) (earliest : ℤ) (at : ℕ) (d : OpenList) → at < length table.lists → IsHeldTable table earliest → IsHeldTable (record table { lists = remove table.lists at }) earliest
held_at table earliest at d within held = record {
  numbers = record { numbered = numbered-removed table.lists at d within held.numbers.numbered; given = all-removed (λ list. nat_lt list.number table.next) table.lists at d within held.numbers.given };
  bound = all-removed (λ list. int_le earliest list.end) table.lists at d within held.bound;
}

pub held_removed : (limit next : ℕ) (lists : List OpenList) (earliest : ℤ) (at : ℕ) → at < length lists → IsHeldTable (record { limit = limit; next = next; lists = lists }) earliest → IsHeldTable (record { limit = limit; next = next; lists = remove lists at }) earliest
held_removed limit next [] earliest at within held = absurd (omega arith)
held_removed limit next (x ∷ lists) earliest at within held = held_at (record { limit = limit; next = next; lists = x ∷ lists }) earliest at x within held

-- ---- opening that is refused

faults_of : (full spent : Bool) (fault : OpenListFault) (next : ℕ) → Err fault ≡ number_or_fault (cond full (Some Full) (cond spent (Some NumbersSpent) None)) next → (fault ≡ Full) × (cond full (Some Full) (cond spent (Some NumbersSpent) None) ≡ Some Full) ⊎ (fault ≡ NumbersSpent) × (cond full (Some Full) (cond spent (Some NumbersSpent) None) ≡ Some NumbersSpent)
faults_of true spent fault next h = inl (cc, refl)
faults_of false true fault next h = inr (cc, refl)
faults_of false false fault next h = cc

pub opening_refused : (old : Table) (now : ℤ) (list : OpenList) (fault : OpenListFault) → Err fault ≡ number_or_fault (open_fault old now) old.next → IsListOpening old now list (Err fault) old
unfolding open_fault
opening_refused old now list fault h =
    elim (faults_of (nat_le old.limit (length (open_ones now old.lists))) (eqb old.next LAST_NUMBER) fault old.next h) [
      | inl full ↦ subst (λ (f : OpenListFault). IsListOpening old now list (Err f) old) (sym full.0) (full.1, refl)
      | inr spent ↦ subst (λ (f : OpenListFault). IsListOpening old now list (Err f) old) (sym spent.0) (spent.1, refl)
    ]

-- opening that is not refused
no_fault : (full spent : Bool) (number next : ℕ) → Ok number ≡ number_or_fault (cond full (Some Full) (cond spent (Some NumbersSpent) None)) next → (full ≡ false) × (spent ≡ false) × (number ≡ next)
no_fault true spent number next h = cc
no_fault false true number next h = cc
no_fault false false number next h = (refl, refl, cc)

pub opening_free : (old : Table) (now : ℤ) (number : ℕ) → Ok number ≡ number_or_fault (open_fault old now) old.next → (open_fault old now ≡ None) × (number ≡ old.next) × (old.next ≢ LAST_NUMBER)
unfolding open_fault
opening_free old now number h =
    let free = no_fault (nat_le old.limit (length (open_ones now old.lists))) (eqb old.next LAST_NUMBER) number old.next h in
    (rw (free.0, free.1) refl, free.2, eqb-false old.next LAST_NUMBER free.1)

-- ---- tests of moments

pub open_test : (now : ℤ) (list : OpenList) → now <ℤ list.end → is_open now list ≡ true
open_test now list h = grind (arith, ints)

pub closed_test : (now : ℤ) (list : OpenList) → list.end ≤ℤ now → is_open now list ≡ false
closed_test now list h = grind (arith, ints)

-- a list of lists that has a place has a list
pub some_item : (lists : List OpenList) (at : ℕ) → at < length lists → (P : Type 0) → (OpenList → P) → P
some_item [] at within P h = absurd (omega arith)
some_item (x ∷ lists) at within P h = h x
