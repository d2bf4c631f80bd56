-- The numbers of lists rise in the course of time, each is given once, and the last one of 64 bits never.
use Rattle.std.proofs.Common.{◌≡◌, ◌∙◌, ◌⊎◌, inl, inr, ℕ, ℤ, ◌+◌, ◌<◌, Bool, true, false, not, ◌||◌, eqb, List, [], ◌∷◌, ◌++◌, append-nil, append_assoc, map, Option, refl, sym, ap, subst, arith}
use Rattle.std.specs.Prelude.{filter, nat_le, nat_lt}
use Rattle.std.specs.List.{list_all}
use Rattle.std.proofs.lemmas.Bool.{and_from, and_parts, cond-true, cond-false, or_left, or_right}
use Rattle.std.proofs.lemmas.Bool.Decides.{nat_tests}
use Rattle.std.proofs.lemmas.List.{map-append}
use Rattle.std.proofs.lemmas.List.Elements.{filter-append}
use Rattle.oai_names.specs.Names.{is_one_of}
use Rattle.oai_lists.specs.declared.lists.TheConstants.{LAST_NUMBER}
use Rattle.oai_settings.specs.Config.{RepositoryConfig}
use Rattle.oai_laws.specs.Effects.{Effect, IsPossible, IsSound, effected, is_given, item_put, item_taken, items_purged, list_carried_on, list_opened, set_added, unchanged}
use Rattle.oai_laws.specs.Eras.{left_behind}
use Rattle.oai_repo.specs.Listing.{carried_on_at, with_carried_on}
use Rattle.oai_laws.specs.Runs.{Transition, Throughout, Timed, are_never_last, numbers_rise_strictly, given_in, numbers_given, numbers_open, performed, run}
use Rattle.oai_repo.specs.State.{FrozenList, RepoState, empty_state, moved}
use Rattle.oai_laws.proofs.EffectLemmas.{effect_of, number_left, same_number, sound_act, sound_empty, sound_moved}

-- ---- every state of a run is sound

abbrev pub IsSoundExchange : RepositoryConfig → Transition → Type 0
IsSoundExchange config exchange = IsSound config exchange.found × IsSound config exchange.left

sound_from : (config : RepositoryConfig) (commands : List Timed) (state : RepoState) → IsSound config state → Throughout (IsSoundExchange config) (run config state commands)
sound_from config [] state sound = tt
sound_from config (timed ∷ commands) state sound =
    let found = sound_moved config timed.moment state sound in
    let left = sound_act config (moved timed.moment state) timed.command found in
    ((found, left), sound_from config commands (performed config state timed).left left)

pub sound_throughout : (config : RepositoryConfig) (commands : List Timed) → Throughout (IsSoundExchange config) (run config (empty_state config) commands)
sound_throughout config commands = sound_from config commands (empty_state config) (sound_empty config)

-- ---- the numbers that one exchange gives

same_is : (n : ℕ) → eqb n n ≡ true
same_is n = grind (arith, nat_tests)

still_one : (x : ℕ) (numbers some : List ℕ) → list_all (is_one_of numbers) some ≡ true → list_all (is_one_of (x ∷ numbers)) some ≡ true
still_one x numbers [] h = refl
still_one x numbers (n ∷ some) h =
    let parts = and_parts (is_one_of numbers n) (list_all (is_one_of numbers) some) h in
    and_from (is_one_of (x ∷ numbers) n) (list_all (is_one_of (x ∷ numbers)) some) (or_right (eqb x n) (is_one_of numbers n) parts.0) (still_one x numbers some parts.1)

each_one : (numbers : List ℕ) → list_all (is_one_of numbers) numbers ≡ true
each_one [] = refl
each_one (x ∷ numbers) =
    and_from (is_one_of (x ∷ numbers) x) (list_all (is_one_of (x ∷ numbers)) numbers) (or_left (eqb x x) (is_one_of numbers x) (same_is x)) (still_one x numbers numbers (each_one numbers))

none_other : (numbers some : List ℕ) → list_all (is_one_of numbers) some ≡ true → filter (λ n. not (is_one_of numbers n)) some ≡ []
none_other numbers [] h = refl
none_other numbers (x ∷ some) h =
    let parts = and_parts (is_one_of numbers x) (list_all (is_one_of numbers) some) h in
    cond-false (not (is_one_of numbers x)) (x ∷ filter (λ n. not (is_one_of numbers n)) some) (filter (λ n. not (is_one_of numbers n)) some) (ap not parts.0) ∙ none_other numbers some parts.1

-- none is given where the same lists are open
none_given : (numbers others : List ℕ) → others ≡ numbers → filter (λ n. not (is_one_of numbers n)) others ≡ []
none_given numbers others same = ap (filter (λ n. not (is_one_of numbers n))) same ∙ none_other numbers numbers (each_one numbers)

-- a number that was not given is none of the open lists'
ungiven : (next : ℕ) (lists : List FrozenList) → list_all (is_given next) lists ≡ true → is_one_of (map (λ (list : FrozenList). list.number) lists) next ≡ false
ungiven next [] h = refl
ungiven next (x ∷ lists) h =
    let parts = and_parts (is_given next x) (list_all (is_given next) lists) h in
    by_tests x.number (is_one_of (map (λ (list : FrozenList). list.number) lists) next) parts.0 (ungiven next lists parts.1)
  where
    by_tests : (n : ℕ) (b : Bool) → nat_lt n next ≡ true → b ≡ false → (eqb n next || b) ≡ false
    by_tests n b below none = grind (arith, nat_tests)

-- one is given where a list is opened with it
one_given : (next : ℕ) (list : FrozenList) (lists : List FrozenList) → list.number ≡ next → list_all (is_given next) lists ≡ true
    → filter (λ n. not (is_one_of (map (λ (l : FrozenList). l.number) lists) n)) (map (λ (l : FrozenList). l.number) (lists ++ list ∷ [])) ≡ next ∷ []
one_given next list lists is h =
    let numbers : List ℕ = map (λ (l : FrozenList). l.number) lists in
    let test : ℕ → Bool = λ n. not (is_one_of numbers n) in
    ap (filter test) (map-append (λ (l : FrozenList). l.number) lists (list ∷ []) ∙ ap (λ (n : ℕ). numbers ++ n ∷ []) is)
    ∙ filter-append test numbers (next ∷ [])
    ∙ ap (λ ns. ns ++ filter test (next ∷ [])) (none_given numbers numbers refl)
    ∙ cond-true (test next) (next ∷ []) [] (ap not (ungiven next lists h))

carried_numbers : (config : RepositoryConfig) (clock : ℤ) (number : ℕ) (next : Option ℕ) (lists : List FrozenList)
    → map (λ (l : FrozenList). l.number) (map (carried_on_at config clock number next) lists) ≡ map (λ (l : FrozenList). l.number) lists
carried_numbers config clock number next [] = refl
carried_numbers config clock number next (x ∷ lists) =
    ap (λ (n : ℕ). n ∷ map (λ (l : FrozenList). l.number) (map (carried_on_at config clock number next) lists)) (same_number config clock number next x)
    ∙ ap (λ ns. x.number ∷ ns) (carried_numbers config clock number next lists)

-- the numbers that are given between these two: none, or the first of the two, which is not the last of all
abbrev IsGiving : ℕ → List ℕ → ℕ → Type 0
IsGiving old given new = ((given ≡ []) × (new ≡ old)) ⊎ ((given ≡ old ∷ []) × (new ≡ old + 1) × (old < LAST_NUMBER))

abbrev new_numbers : RepoState → RepoState → List ℕ
new_numbers old new = filter (λ n. not (is_one_of (numbers_open old.open_lists) n)) (numbers_open new.open_lists)

given_by : (config : RepositoryConfig) (state : RepoState) (effect : Effect) → IsPossible config state effect → IsSound config state
    → IsGiving state.open_lists.next (new_numbers state (effected config state effect)) (effected config state effect).open_lists.next
given_by config state unchanged possible sound = inl (none_given (numbers_open state.open_lists) (numbers_open state.open_lists) refl, refl)
given_by config state (item_put item) possible sound = inl (none_given (numbers_open state.open_lists) (numbers_open state.open_lists) refl, refl)
given_by config state (item_taken identifier) possible sound = inl (none_given (numbers_open state.open_lists) (numbers_open state.open_lists) refl, refl)
given_by config state (items_purged limit) possible sound = inl (none_given (numbers_open state.open_lists) (numbers_open state.open_lists) refl, refl)
given_by config state (set_added set) possible sound = inl (none_given (numbers_open state.open_lists) (numbers_open state.open_lists) refl, refl)
given_by config state (list_carried_on number next) possible sound = inl (
  none_given (numbers_open state.open_lists) (numbers_open (with_carried_on config state.clock number next state.open_lists)) (carried_numbers config state.clock number next state.open_lists.lists),
  refl,
)
given_by config state (list_opened list) possible sound = inr (
  one_given state.open_lists.next list state.open_lists.lists possible.number sound.given,
  refl,
  number_left config state.clock state.open_lists possible.admitted sound.few,
)

given_at : (config : RepositoryConfig) (state : RepoState) (timed : Timed) → IsSound config state → IsGiving state.open_lists.next (given_in (performed config state timed)) (performed config state timed).left.open_lists.next
given_at config state timed sound =
    let found : RepoState = moved timed.moment state in
    let sound_found = sound_moved config timed.moment state sound in
    let done = effect_of config found timed.command sound_found in
    subst (λ (new : RepoState). IsGiving found.open_lists.next (new_numbers found new) new.open_lists.next) (sym done.done) (given_by config found done.effect done.possible sound_found)

-- ---- the numbers that a run gives

-- none is below the next, they rise, and the last one of all is not given
pub record AreGiven (next : ℕ) (numbers : List ℕ) : Type 0 where
  pub above : list_all (nat_le next) numbers ≡ true
  pub rising : numbers_rise_strictly numbers ≡ true
  pub never_last : are_never_last numbers ≡ true

higher : (next : ℕ) (numbers : List ℕ) → list_all (nat_le (next + 1)) numbers ≡ true → (list_all (nat_lt next) numbers ≡ true) × (list_all (nat_le next) numbers ≡ true)
higher next [] h = (refl, refl)
higher next (n ∷ numbers) h =
    let parts = and_parts (nat_le (next + 1) n) (list_all (nat_le (next + 1)) numbers) h in
    let rest = higher next numbers parts.1 in
    let above : nat_lt next n ≡ true = above_it n parts.0 in
    let from : nat_le next n ≡ true = from_it n parts.0 in
    (and_from (nat_lt next n) (list_all (nat_lt next) numbers) above rest.0, and_from (nat_le next n) (list_all (nat_le next) numbers) from rest.1)
  where
    above_it : (n : ℕ) → nat_le (next + 1) n ≡ true → nat_lt next n ≡ true
    above_it n h = grind (arith, nat_tests)

    from_it : (n : ℕ) → nat_le (next + 1) n ≡ true → nat_le next n ≡ true
    from_it n h = grind (arith, nat_tests)

with_first : (next : ℕ) (numbers : List ℕ) → next < LAST_NUMBER → AreGiven (next + 1) numbers → AreGiven next (next ∷ numbers)
with_first next numbers left given =
    let rest = higher next numbers given.above in
    record {
      above = and_from (nat_le next next) (list_all (nat_le next) numbers) (own next) rest.1;
      rising = and_from (list_all (nat_lt next) numbers) (numbers_rise_strictly numbers) rest.0 given.rising;
      never_last = and_from (nat_lt next LAST_NUMBER) (are_never_last numbers) (not_last next left) given.never_last;
    }
  where
    own : (n : ℕ) → nat_le n n ≡ true
    own n = grind (arith, nat_tests)

    not_last : (n : ℕ) → n < LAST_NUMBER → nat_lt n LAST_NUMBER ≡ true
    not_last n h = grind (arith, nat_tests)

joined_given : (old new : ℕ) (given numbers : List ℕ) → IsGiving old given new → AreGiven new numbers → AreGiven old (given ++ numbers)
joined_given old new given numbers (inl none) later =
    subst (λ (ns : List ℕ). AreGiven old (ns ++ numbers)) (sym none.0) (subst (λ (n : ℕ). AreGiven n numbers) none.1 later)
joined_given old new given numbers (inr one) later =
    subst (λ (ns : List ℕ). AreGiven old (ns ++ numbers)) (sym one.0) (with_first old numbers one.2 (subst (λ (n : ℕ). AreGiven n numbers) one.1 later))

-- those of a run, and others that are given after it
pub given_then : (config : RepositoryConfig) (commands : List Timed) (state : RepoState) (later : List ℕ) → IsSound config state → AreGiven (left_behind config state commands).open_lists.next later
    → AreGiven state.open_lists.next (numbers_given (run config state commands) ++ later)
given_then config [] state later sound given = given
given_then config (timed ∷ commands) state later sound given =
    let exchange : Transition = performed config state timed in
    let left = sound_act config (moved timed.moment state) timed.command (sound_moved config timed.moment state sound) in
    let others : List ℕ = numbers_given (run config exchange.left commands) in
    subst (AreGiven state.open_lists.next) (sym (append_assoc (given_in exchange) others later))
    (joined_given state.open_lists.next exchange.left.open_lists.next (given_in exchange) (others ++ later) (given_at config state timed sound) (given_then config commands exchange.left later left given))

pub none_are_given : (next : ℕ) → AreGiven next []
none_are_given next = record { above = refl; rising = refl; never_last = refl }

given_from : (config : RepositoryConfig) (commands : List Timed) (state : RepoState) → IsSound config state → AreGiven state.open_lists.next (numbers_given (run config state commands))
given_from config commands state sound =
    subst (AreGiven state.open_lists.next) (append-nil (numbers_given (run config state commands)))
    (given_then config commands state [] sound (none_are_given (left_behind config state commands).open_lists.next))

pub numbers_rise : (config : RepositoryConfig) (commands : List Timed) → numbers_rise_strictly (numbers_given (run config (empty_state config) commands)) ≡ true
numbers_rise config commands = (given_from config commands (empty_state config) (sound_empty config)).rising

pub never_the_last : (config : RepositoryConfig) (commands : List Timed) → are_never_last (numbers_given (run config (empty_state config) commands)) ≡ true
never_the_last config commands = (given_from config commands (empty_state config) (sound_empty config)).never_last
