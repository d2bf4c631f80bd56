-- A text stands for one bound at most, and `bound_of` finds it.
use Rattle.std.proofs.Common.{◌≡◌, ℕ, zero, suc, ◌+◌, ◌*◌, ◌/◌, ◌%◌, ◌<◌, Bool, true, false, cond, inl, inr, List, length, Option, None, Some, Result, Ok, Err, IfOk, OnErr, refl, sym, ap, subst, ◌∙◌, arith, ℤ, pos, ◌+ℤ◌, get_or}
use Rattle.std.specs.Prelude.{bytes_eq, ◌⊎◌}
use Rattle.std.specs.Option.{option_map, option_or}
use Rattle.std.specs.Result.{result_ok}
use Rattle.std.proofs.lemmas.Bool.{cases_lt}
use Rattle.std.proofs.lemmas.Slice.Eq.{bytes_eq-Decides}
use Rattle.jiff_core.proofs.SignedLemmas.{signed_arith, int_rem_euclid-parts}
use Rattle.oai_time.specs.declared.bound.BadDate.{BadDate}
use Rattle.oai_time.specs.declared.bound.Bound.{Bound}
use Rattle.oai_time.specs.declared.bound.Bound.TheVariants.{Day as WholeDay, Second as OneSecond}
use Rattle.oai_time.specs.Bound.{IsBound, IsMidnight, last_below, second_after, midnight_of, day_of, second_of, bound_of}
use Rattle.oai_time.specs.Calendar.{CalendarDay, calendar_day}
use Rattle.oai_time.specs.TimeTexts.{date_text, time_text, day_text, second_text, seconds_of_era}
use Rattle.oai_time.proofs.BoundLemmas.{IsDayBound, IsSecondBound, by_ten, by_twenty, length-day_text, length-second_text, day_below, era, midnight_is}
use Rattle.oai_time.proofs.CalendarLemmas.{calendar_day_bounds, calendar_day_injective}
use Rattle.oai_time.proofs.DigitLemmas.{read_two, two_digits_back, four_digits_back}

-- ---- one bound at most

read_year : List ℕ → ℕ
read_year t = 100 * read_two (get_or t 0 0) (get_or t 1 0) + read_two (get_or t 2 0) (get_or t 3 0)

read_at : ℕ → List ℕ → ℕ
read_at i t = read_two (get_or t i 0) (get_or t (suc i) 0)

year_back : (d : CalendarDay) → d.year < 10_000 → read_year (date_text d) ≡ d.year
unfolding date_text read_year
year_back d below = four_digits_back d.year below

month_back : (d : CalendarDay) → d.month < 100 → read_at 5 (date_text d) ≡ d.month
unfolding date_text read_at
month_back d below = two_digits_back d.month below

day_back : (d : CalendarDay) → d.day < 100 → read_at 8 (date_text d) ≡ d.day
unfolding date_text read_at
day_back d below = two_digits_back d.day below

pub same_parts : (c d : CalendarDay) → c.year ≡ d.year → c.month ≡ d.month → c.day ≡ d.day → c ≡ d
same_parts c d year month day =
    let made : ℕ → ℕ → ℕ → CalendarDay = λ y m n. record { year = y; month = m; day = n } in
    ap (λ (y : ℕ). made y c.month c.day) year ∙ ap (λ (m : ℕ). made d.year m c.day) month ∙ ap (λ (n : ℕ). made d.year d.month n) day

-- two days of one text are one
same_day : (m n : ℕ) → m < 3_652_425 → n < 3_652_425 → date_text (calendar_day m) ≡ date_text (calendar_day n) → m ≡ n
same_day m n first second same =
    let c = calendar_day_bounds m first in
    let d = calendar_day_bounds n second in
    let year = sym (year_back (calendar_day m) c.0) ∙ ap read_year same ∙ year_back (calendar_day n) d.0 in
    let month = sym (month_back (calendar_day m) c.1) ∙ ap (read_at 5) same ∙ month_back (calendar_day n) d.1 in
    let day = sym (day_back (calendar_day m) c.2) ∙ ap (read_at 8) same ∙ day_back (calendar_day n) d.2 in
    calendar_day_injective m n (same_parts (calendar_day m) (calendar_day n) year month day)

hour_back : (s : ℕ) → s < 86_400 → read_at 1 (time_text s) ≡ s / 3600
unfolding time_text read_at
hour_back s below = two_digits_back (s / 3600) (omega arith)

minute_back : (s : ℕ) → s < 86_400 → read_at 4 (time_text s) ≡ s / 60 % 60
unfolding time_text read_at
minute_back s below = two_digits_back (s / 60 % 60) (omega arith)

second_back : (s : ℕ) → s < 86_400 → read_at 7 (time_text s) ≡ s % 60
unfolding time_text read_at
second_back s below = two_digits_back (s % 60) (omega arith)

-- two times of day of one text are one
same_time : (s t : ℕ) → s < 86_400 → t < 86_400 → time_text s ≡ time_text t → s ≡ t
same_time s t first second same =
    let hour = sym (hour_back s first) ∙ ap (read_at 1) same ∙ hour_back t second in
    let minute = sym (minute_back s first) ∙ ap (read_at 4) same ∙ minute_back t second in
    let last = sym (second_back s first) ∙ ap (read_at 7) same ∙ second_back t second in
    omega (arith, hour, minute, last)

one_day : (text : List ℕ) (a b : Bound) → IsDayBound text a → IsDayBound text b → a ≡ b
one_day text a b first second =
    let same = same_day first.days second.days first.below second.below (sym first.written ∙ second.written) in
    first.is ∙ ap (λ (n : ℕ). WholeDay (midnight_of n)) same ∙ sym second.is

one_second : (text : List ℕ) (a b : Bound) → IsSecondBound text a → IsSecondBound text b → a ≡ b
one_second text a b first second =
    let day = same_day first.days second.days first.below second.below (sym first.date ∙ second.date) in
    let time = same_time first.second second.second first.within second.within (sym first.time ∙ second.time) in
    first.is
    ∙ ap (λ (n : ℕ). OneSecond (midnight_of n +ℤ pos first.second)) day
    ∙ ap (λ (s : ℕ). OneSecond (midnight_of second.days +ℤ pos s)) time
    ∙ sym second.is

pub IsBound-unique : (text : List ℕ) (a b : Bound) → IsBound text a → IsBound text b → a ≡ b
IsBound-unique text (WholeDay t) b first second =
    let ten = ap length first.written ∙ length-day_text t in
    one_day text (WholeDay t) b (by_ten text (WholeDay t) ten first) (by_ten text b ten second)
IsBound-unique text (OneSecond t) b first second =
    let twenty = ap length first.written ∙ length-second_text t in
    one_second text (OneSecond t) b (by_twenty text (OneSecond t) twenty first) (by_twenty text b twenty second)

-- ---- the greatest number that passes

found_step : (p : ℕ → Bool) (n k : ℕ) (b : Bool) → p n ≡ b → (last_below p n ≡ Some k → (p k ≡ true) × (k < n)) → cond b (Some n) (last_below p n) ≡ Some k → (p k ≡ true) × (k < suc n)
found_step p n k true passes rest e = let same : n ≡ k = cc in (ap p (sym same) ∙ passes, omega arith)
found_step p n k false passes rest e = let h = rest e in (h.0, omega (arith, h.1))

found : (p : ℕ → Bool) (n k : ℕ) → last_below p n ≡ Some k → (p k ≡ true) × (k < n)
unfolding last_below
found p zero k e = cc
found p (suc n) k e = found_step p n k (p n) refl (found p n k) e

some_step : (p : ℕ → Bool) (n k : ℕ) (b : Bool) → p n ≡ b → (k < n → (j : ℕ) × (last_below p n ≡ Some j)) → k < suc n → p k ≡ true → (j : ℕ) × (cond b (Some n) (last_below p n) ≡ Some j)
some_step p n k true here rest below passes = (n, refl)
some_step p n k false here rest below passes =
    elim (cases_lt k n) [
      | inl lt ↦ rest lt
      | inr le ↦ let same : k ≡ n = omega arith in let both = ap p same in cc
    ]

-- if one passes, there is a greatest
some : (p : ℕ → Bool) (n k : ℕ) → k < n → p k ≡ true → (j : ℕ) × (last_below p n ≡ Some j)
unfolding last_below
some p zero k below passes = absurd (omega arith)
some p (suc n) k below passes = some_step p n k (p n) refl (λ lt. some p n k lt passes) below passes

-- ---- what is found

pub midnight_in_range : (n : ℕ) → n < 3_652_425 → IsMidnight (midnight_of n)
midnight_in_range n below =
    (omega (arith, signed_arith), omega (arith, signed_arith, int_rem_euclid-parts (midnight_of n) 86_400))

day_is : (text : List ℕ) (n : ℕ) → day_of text ≡ Some n → IsBound text (WholeDay (midnight_of n))
unfolding day_of
day_is text n e =
    let h = found (λ n. bytes_eq text (day_text (midnight_of n))) 3_652_425 n e in
    let seconds = midnight_of n in
    record {
      in_range = midnight_in_range n h.1;
      written = (bytes_eq-Decides text (day_text seconds)).0 h.0;
    }

second_is : (text : List ℕ) (n : ℕ) → second_of text ≡ Some n → IsBound text (OneSecond (second_after n))
unfolding second_of
second_is text n e =
    let h = found (λ n. bytes_eq text (second_text (second_after n))) 315_569_520_000 n e in
    let low = h.1 in
    record {
      in_range = omega (arith, signed_arith);
      written = (bytes_eq-Decides text (second_text (second_after n))).0 h.0;
    }

either_is : (text : List ℕ) (b : Bound) (day second : Option ℕ) → day_of text ≡ day → second_of text ≡ second
    → option_or (option_map (λ n. WholeDay (midnight_of n)) day) (option_map (λ n. OneSecond (second_after n)) second) ≡ Some b → IsBound text b
either_is text b (Some n) second d s e =
    let same : WholeDay (midnight_of n) ≡ b = cc in
    let Is : Bound → Type 0 = IsBound text in
    subst Is same (day_is text n d)
either_is text b None (Some n) d s e =
    let same : OneSecond (second_after n) ≡ b = cc in
    let Is : Bound → Type 0 = IsBound text in
    subst Is same (second_is text n s)
either_is text b None None d s e = cc

-- the bound that is found is the text's
pub bound_of_is : (text : List ℕ) (b : Bound) → bound_of text ≡ Some b → IsBound text b
unfolding bound_of
bound_of_is text b e = either_is text b (day_of text) (second_of text) refl refl e

some_day : (text : List ℕ) (t : ℤ) → IsBound text (WholeDay t) → (n : ℕ) × (day_of text ≡ Some n)
unfolding day_of
some_day text t h =
    let n = seconds_of_era t / 86_400 in
    let same = ap day_text (midnight_is t h.in_range) in
    some (λ n. bytes_eq text (day_text (midnight_of n))) 3_652_425 n (day_below t h.in_range.0)
    ((bytes_eq-Decides text (day_text (midnight_of n))).1 (h.written ∙ same))

some_second : (text : List ℕ) (t : ℤ) → IsBound text (OneSecond t) → (n : ℕ) × (second_of text ≡ Some n)
unfolding second_of
some_second text t h =
    let n = seconds_of_era t in
    let is : t ≡ second_after n = omega (arith, signed_arith, era t h.in_range) in
    some (λ n. bytes_eq text (second_text (second_after n))) 315_569_520_000 n (omega (arith, signed_arith, era t h.in_range, h.in_range))
    ((bytes_eq-Decides text (second_text (second_after n))).1 (h.written ∙ ap second_text is))

either_some : (day second : Option ℕ) (n : ℕ) → (day ≡ Some n) ⊎ (second ≡ Some n) → (b : Bound) × (option_or (option_map (λ n. WholeDay (midnight_of n)) day) (option_map (λ n. OneSecond (second_after n)) second) ≡ Some b)
either_some (Some m) second n h = (WholeDay (midnight_of m), refl)
either_some None (Some m) n h = (OneSecond (second_after m), refl)
either_some None None n (inl e) = cc
either_some None None n (inr e) = cc

some_bound : (text : List ℕ) (b : Bound) → IsBound text b → (a : Bound) × (bound_of text ≡ Some a)
unfolding bound_of
some_bound text (WholeDay t) h = let s = some_day text t h in either_some (day_of text) (second_of text) s.0 (inl s.1)
some_bound text (OneSecond t) h = let s = some_second text t h in either_some (day_of text) (second_of text) s.0 (inr s.1)

-- and where a text stands for a bound, that bound is found
pub bound_of_found : (text : List ℕ) (b : Bound) → IsBound text b → bound_of text ≡ Some b
bound_of_found text b h =
    let s = some_bound text b h in
    s.1 ∙ ap (λ (a : Bound). Some a) (IsBound-unique text s.0 b (bound_of_is text s.0 s.1) h)

none_of : (text : List ℕ) (found : Option Bound) → bound_of text ≡ found → ((b : Bound) → ¬ IsBound text b) → found ≡ None
none_of text None e none = refl
none_of text (Some b) e none = absurd (none b (bound_of_is text b e))

-- and where it stands for none, none is
pub bound_of_none : (text : List ℕ) → ((b : Bound) → ¬ IsBound text b) → bound_of text ≡ None
bound_of_none text none = none_of text (bound_of text) refl none

-- what reading the text answers
pub bound_of_read : (text : List ℕ) (result : Result Bound BadDate) → IfOk result (IsBound text) → OnErr result ((b : Bound) → ¬ IsBound text b) → result_ok result ≡ bound_of text
bound_of_read text (Ok b) found refused = sym (bound_of_found text b found)
bound_of_read text (Err e) found refused = sym (bound_of_none text refused)
