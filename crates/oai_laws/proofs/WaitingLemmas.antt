-- A request that is told to wait is told to wait for a second at least, and where the table is full a list ends meanwhile.
use Rattle.std.proofs.Common.{◌≡◌, ◌∙◌, inl, inr, ℕ, ℤ, pos, ◌<◌, ◌≤◌, ◌+ℤ◌, ◌-ℤ◌, ◌≤ℤ◌, ◌<ℤ◌, Bool, true, false, not, ◌&&◌, eqb, cond, List, [], ◌∷◌, length, None, Some, refl, sym, ap, subst, arith}
use Rattle.std.specs.Prelude.{filter, int_lt, nat_le}
use Rattle.std.specs.Int.{int_min}
use Rattle.std.specs.List.{list_all}
use Rattle.std.proofs.lemmas.Bool.{and_from, and_parts, cond_both, cond-false, not-true}
use Rattle.std.proofs.lemmas.Bool.Decides.{nat_tests}
use Rattle.std.proofs.lemmas.Int.{ints}
use Rattle.oai_names.proofs.Lists.{all-filter_same, filter_all}
use Rattle.oai_lists.specs.declared.lists.TheConstants.{LAST_NUMBER}
use Rattle.oai_settings.specs.Config.{IsConfig, RepositoryConfig, are_limits, is_chunk, is_items, is_lifetime, is_lists}
use Rattle.oai_repo.specs.Listing.{earliest_end, seconds_to_end, wait_at}
use Rattle.oai_repo.specs.State.{FrozenList, OpenLists, is_open_at, still_open}
use Rattle.oai_laws.specs.Waiting.{IsWait}

-- ---- numbers of moments

min_later : (c a b : ℤ) → int_lt c a ≡ true → int_lt c b ≡ true → int_lt c (int_min a b) ≡ true
min_later c a b first second = cond_both (int_lt b a) b a (λ (m : ℤ). int_lt c m ≡ true) (λ _. second) (λ _. first)

some_later : (c e : ℤ) → int_lt c e ≡ true → pos 1 ≤ℤ (e -ℤ c)
some_later c e h = grind (arith, ints)

there_again : (c e : ℤ) → (c +ℤ (e -ℤ c)) ≡ e
there_again c e = grind (arith, ints)

not_before : (a b : ℤ) → a ≡ b → int_lt a b ≡ false
not_before a b same = let e : not (int_lt a b) ≡ true = grind (arith, ints) in not-true (int_lt a b) e

some_seconds : (n : ℕ) → 1 ≤ n → pos 1 ≤ℤ pos n
some_seconds n h = grind (arith, ints)

before_both : (c a b : ℤ) → int_lt c (int_min a b) ≡ true → (int_lt c a ≡ true) × (int_lt c b ≡ true)
before_both c a b h = by_test (int_lt b a) refl h
  where
    by_test : (t : Bool) → int_lt b a ≡ t → int_lt c (cond t b a) ≡ true → (int_lt c a ≡ true) × (int_lt c b ≡ true)
    by_test true less sooner = (let all : int_lt c a ≡ true = grind (arith, ints) in all, sooner)
    by_test false more sooner = (sooner, let all : int_lt c b ≡ true = grind (arith, ints) in all)

still_before : (c fewer e seconds : ℤ) → seconds ≡ (e -ℤ c) → fewer <ℤ seconds → int_lt (c +ℤ fewer) e ≡ true
still_before c fewer e seconds is less = grind (arith, ints)

-- ---- lists that are open

-- the earliest of their ends is later
ends_later : (clock : ℤ) (list : FrozenList) (lists : List FrozenList) → list_all (is_open_at clock) (list ∷ lists) ≡ true → int_lt clock (earliest_end list lists) ≡ true
ends_later clock list [] h = (and_parts (is_open_at clock list) true h).0
ends_later clock list (next ∷ lists) h =
    let parts = and_parts (is_open_at clock list) (list_all (is_open_at clock) (next ∷ lists)) h in
    min_later clock list.end (earliest_end next lists) parts.0 (ends_later clock next lists parts.1)

-- ---- fewer are open at the earliest of the ends

no_more : (now : ℤ) (lists : List FrozenList) → length (filter (is_open_at now) lists) ≤ length lists
no_more now [] = omega arith
no_more now (x ∷ lists) = by_test (is_open_at now x) (no_more now lists)
  where
    rest : List FrozenList
    rest = filter (is_open_at now) lists

    by_test : (b : Bool) → length rest ≤ length lists → length (cond b (x ∷ rest) rest) ≤ length (x ∷ lists)
    by_test true h = omega (arith, h)
    by_test false h = omega (arith, h)

first_ended : (now : ℤ) (x : FrozenList) (lists : List FrozenList) → now ≡ x.end → length (filter (is_open_at now) (x ∷ lists)) < length (x ∷ lists)
first_ended now x lists is =
    let rest : List FrozenList = filter (is_open_at now) lists in
    let gone : length (filter (is_open_at now) (x ∷ lists)) ≡ length rest = ap (λ (ls : List FrozenList). length ls) (cond-false (is_open_at now x) (x ∷ rest) rest (not_before now x.end is)) in
    omega (arith, gone, no_more now lists)

later_ended : (now : ℤ) (x : FrozenList) (lists : List FrozenList) → length (filter (is_open_at now) lists) < length lists → length (filter (is_open_at now) (x ∷ lists)) < length (x ∷ lists)
later_ended now x lists h = by_test (is_open_at now x) h
  where
    rest : List FrozenList
    rest = filter (is_open_at now) lists

    by_test : (b : Bool) → length rest < length lists → length (cond b (x ∷ rest) rest) < length (x ∷ lists)
    by_test true h = omega (arith, h)
    by_test false h = omega (arith, h)

one_ended : (now : ℤ) (list : FrozenList) (lists : List FrozenList) → now ≡ earliest_end list lists → length (filter (is_open_at now) (list ∷ lists)) < length (list ∷ lists)
one_ended now list [] is = first_ended now list [] is
one_ended now list (next ∷ lists) is = by_test (int_lt (earliest_end next lists) list.end) is (one_ended now next lists)
  where
    by_test : (b : Bool) → now ≡ cond b (earliest_end next lists) list.end → (now ≡ earliest_end next lists → length (filter (is_open_at now) (next ∷ lists)) < length (next ∷ lists))
        → length (filter (is_open_at now) (list ∷ next ∷ lists)) < length (list ∷ next ∷ lists)
    by_test true e later = later_ended now list (next ∷ lists) (later e)
    by_test false e later = first_ended now list (next ∷ lists) e

-- ---- none ends before the earliest of the ends

all_last : (now : ℤ) (list : FrozenList) (lists : List FrozenList) → int_lt now (earliest_end list lists) ≡ true → list_all (is_open_at now) (list ∷ lists) ≡ true
all_last now list [] h = and_from (is_open_at now list) true h refl
all_last now list (next ∷ lists) h =
    let both = before_both now list.end (earliest_end next lists) h in
    and_from (is_open_at now list) (list_all (is_open_at now) (next ∷ lists)) both.0 (all_last now next lists both.1)

none_ended : (clock fewer seconds : ℤ) (lists : List FrozenList) → 1 ≤ length lists → seconds ≡ seconds_to_end clock lists → fewer <ℤ seconds → filter (is_open_at (clock +ℤ fewer)) lists ≡ lists
none_ended clock fewer seconds [] some is less = absurd (omega (arith, some))
none_ended clock fewer seconds (list ∷ lists) some is less =
    filter_all (is_open_at (clock +ℤ fewer)) (list ∷ lists) (all_last (clock +ℤ fewer) list lists (still_before clock fewer (earliest_end list lists) seconds is less))

-- ---- a wait

full_wait : (clock seconds : ℤ) (lists : List FrozenList) → list_all (is_open_at clock) lists ≡ true → 1 ≤ length lists → seconds ≡ seconds_to_end clock lists
    → (pos 1 ≤ℤ seconds) × (length (filter (is_open_at (clock +ℤ seconds)) lists) < length lists)
full_wait clock seconds [] lasting some is = absurd (omega (arith, some))
full_wait clock seconds (list ∷ lists) lasting some is = (
  subst (λ (s : ℤ). pos 1 ≤ℤ s) (sym is) (some_later clock (earliest_end list lists) (ends_later clock list lists lasting)),
  one_ended (clock +ℤ seconds) list lists (ap (λ (s : ℤ). clock +ℤ s) is ∙ there_again clock (earliest_end list lists)),
)

at_least_one : (n : ℕ) → is_lists n ≡ true → 1 ≤ n
at_least_one n h = grind (arith, nat_tests)

lasts_some : (n : ℕ) → is_lifetime n ≡ true → 1 ≤ n
lasts_some n h = grind (arith, nat_tests)

is_up_to : (n most : ℕ) → nat_le n most ≡ true → n ≤ most
is_up_to n most h = grind (arith, nat_tests)

is_above : (n most : ℕ) → nat_le n most ≡ false → n ≤ most → ⊥
is_above n most h k = grind (arith, nat_tests)

is_same : (n m : ℕ) → eqb n m ≡ true → n ≡ m
is_same n m h = grind (arith, nat_tests)

pub wait_is : (config : RepositoryConfig) (clock seconds : ℤ) (open_lists : OpenLists) → IsConfig config → wait_at config clock (still_open clock open_lists) ≡ Some seconds
    → IsWait config clock (still_open clock open_lists) seconds
unfolding wait_at are_limits
wait_is config clock seconds open_lists good retry_after =
    let limits = and_parts (is_chunk config.chunk && is_lifetime config.lifetime && is_lists config.lists) (is_items config.items) good.limited in
    let fewer = and_parts (is_chunk config.chunk && is_lifetime config.lifetime) (is_lists config.lists) limits.0 in
    let fewest = and_parts (is_chunk config.chunk) (is_lifetime config.lifetime) fewer.0 in
    by_tests (nat_le config.lists (length lists)) (eqb open_lists.next LAST_NUMBER) refl refl (at_least_one config.lists fewer.1) (lasts_some config.lifetime fewest.1) retry_after
  where
    lists : List FrozenList
    lists = filter (is_open_at clock) open_lists.lists

    by_tests : (full spent : Bool) → nat_le config.lists (length lists) ≡ full → eqb open_lists.next LAST_NUMBER ≡ spent → 1 ≤ config.lists → 1 ≤ config.lifetime
        → cond full (Some (seconds_to_end clock lists)) (cond spent (Some (pos config.lifetime)) None) ≡ Some seconds → IsWait config clock (still_open clock open_lists) seconds
    by_tests true spent many last some lasts is =
        let seconds_are : seconds ≡ seconds_to_end clock lists = cc in
        let any : 1 ≤ length lists = omega (arith, some, is_up_to config.lists (length lists) many) in
        let wait = full_wait clock seconds lists (all-filter_same (is_open_at clock) open_lists.lists) any seconds_are in
        record { reason = inl (is_up_to config.lists (length lists) many); some = wait.0; helps = λ _. wait.1; no_longer = λ fewer _ less. none_ended clock fewer seconds lists any seconds_are less }
    by_tests false true few last some lasts is =
        let seconds_are : seconds ≡ pos config.lifetime = cc in
        record {
          reason = inr (is_same open_lists.next LAST_NUMBER last);
          some = subst (λ (s : ℤ). pos 1 ≤ℤ s) (sym seconds_are) (some_seconds config.lifetime lasts);
          helps = λ many. absurd (is_above config.lists (length lists) few many);
          no_longer = λ fewer many less. absurd (is_above config.lists (length lists) few many);
        }
    by_tests false false few last some lasts is = cc
