-- A list that was told of stands until its end, whatever is asked and deposited meanwhile.
use Rattle.std.proofs.Common.{◌≡◌, ◌∙◌, inl, inr, ℕ, ℤ, pos, ◌≤◌, ◌+ℤ◌, ◌≤ℤ◌, Bool, true, false, eqb, cond, List, [], ◌∷◌, map, Option, None, Some, refl, sym, ap, subst, arith}
use Rattle.std.specs.Prelude.{filter, find, int_lt, nat_lt}
use Rattle.std.specs.List.{list_all}
use Rattle.std.specs.Option.{option_or}
use Rattle.std.proofs.lemmas.Bool.{and_parts, cases_Bool, cond_both, cond-true, cond-false}
use Rattle.std.proofs.lemmas.Bool.Decides.{nat_tests}
use Rattle.std.proofs.Math.Nat.{le-max_left}
use Rattle.std.proofs.lemmas.Int.{ints}
use Rattle.std.proofs.lemmas.List.Folds.{find-append}
use Rattle.oai_time.specs.Clock.{tick}
use Rattle.oai_settings.specs.Config.{RepositoryConfig}
use Rattle.oai_laws.specs.Effects.{Effect, IsSound, effected, is_given, item_put, item_taken, items_purged, list_carried_on, list_opened, set_added, unchanged}
use Rattle.oai_lists.specs.OpenLists.{highest_given}
use Rattle.oai_repo.specs.Listing.{carried_on, carried_on_at, is_of_number, with_carried_on, with_new_list}
use Rattle.oai_repo.specs.State.{FrozenList, OpenLists, RepoState, is_open_at, moved}
use Rattle.oai_laws.proofs.EffectLemmas.{same_number}

-- ---- what is found

pub find_kept : {A : Type 0} (p q : A → Bool) (xs : List A) (x : A) → find p xs ≡ Some x → q x ≡ true → find p (filter q xs) ≡ Some x
find_kept p q [] x h passes = cc
find_kept p q (y ∷ xs) x h passes = elim (cases_Bool (p y)) [
  | inl here ↦
      let is : Some y ≡ Some x = sym (cond-true (p y) (Some y) (find p xs) here) ∙ h in
      let same : y ≡ x = cc in
      ap (find p) (cond-true (q y) (y ∷ filter q xs) (filter q xs) (ap q same ∙ passes)) ∙ cond-true (p y) (Some y) (find p (filter q xs)) here ∙ is
  | inr other ↦
      let rest = find_kept p q xs x (sym (cond-false (p y) (Some y) (find p xs) other) ∙ h) passes in
      cond_both (q y) (y ∷ filter q xs) (filter q xs) (λ ys. find p ys ≡ Some x) (λ _. cond-false (p y) (Some y) (find p (filter q xs)) other ∙ rest) (λ _. rest)
]

pub find_mapped : {A : Type 0} (p : A → Bool) (f : A → A) → ((x : A) → p (f x) ≡ p x) → (xs : List A) (x : A) → find p xs ≡ Some x → find p (map f xs) ≡ Some (f x)
find_mapped p f same [] x h = cc
find_mapped p f same (y ∷ xs) x h = elim (cases_Bool (p y)) [
  | inl here ↦
      let is : Some y ≡ Some x = sym (cond-true (p y) (Some y) (find p xs) here) ∙ h in
      let one : y ≡ x = cc in
      cond-true (p (f y)) (Some (f y)) (find p (map f xs)) (same y ∙ here) ∙ ap (λ z. Some (f z)) one
  | inr other ↦
      cond-false (p (f y)) (Some (f y)) (find p (map f xs)) (same y ∙ other) ∙ find_mapped p f same xs x (sym (cond-false (p y) (Some y) (find p xs) other) ∙ h)
]

-- no list has a number that was not given
pub find_ungiven : (next : ℕ) (lists : List FrozenList) → list_all (is_given next) lists ≡ true → find (is_of_number next) lists ≡ None
find_ungiven next [] h = refl
find_ungiven next (x ∷ lists) h =
    let parts = and_parts (is_given next x) (list_all (is_given next) lists) h in
    cond-false (is_of_number next x) (Some x) (find (is_of_number next) lists) (apart x.number parts.0) ∙ find_ungiven next lists parts.1
  where
    apart : (n : ℕ) → nat_lt n next ≡ true → eqb n next ≡ false
    apart n below = grind (arith, nat_tests)

-- what is found has the number that was looked for, and what is true of all is true of it
pub of_found : {A : Type 0} (p q : A → Bool) (xs : List A) (x : A) → find p xs ≡ Some x → list_all q xs ≡ true → q x ≡ true
of_found p q [] x h all = cc
of_found p q (y ∷ xs) x h all =
    let parts = and_parts (q y) (list_all q xs) all in
    elim (cases_Bool (p y)) [
      | inl here ↦
          let is : Some y ≡ Some x = sym (cond-true (p y) (Some y) (find p xs) here) ∙ h in
          let same : y ≡ x = cc in
          ap q (sym same) ∙ parts.0
      | inr other ↦ of_found p q xs x (sym (cond-false (p y) (Some y) (find p xs) other) ∙ h) parts.1
    ]

-- ---- a list that stands

-- among the open lists is this one, with no earlier end, and no token fewer handed out
abbrev pub IsThere : FrozenList → OpenLists → Type 0
IsThere list open_lists =
    (end : ℤ) × (given : ℕ) × (list.end ≤ℤ end) × (list.given ≤ given)
    × (find (is_of_number list.number) open_lists.lists ≡ Some (record list { end = end; given = given }))

-- the list that is found
abbrev pub list_there : (list : FrozenList) (open_lists : OpenLists) → IsThere list open_lists → FrozenList
list_there list open_lists there = record list { end = there.0; given = there.1 }

-- a list with the end that was told: this is not later than the clock and the lifetime, and until then the list is there
pub record Stands (config : RepositoryConfig) (list : FrozenList) (state : RepoState) : Type 0 where
  pub soon : list.end ≤ℤ (state.clock +ℤ pos config.lifetime)
  pub there : int_lt state.clock list.end ≡ true → IsThere list state.open_lists

-- ---- the clock moves

not_back : (clock moment : ℤ) → clock ≤ℤ tick clock moment
not_back clock moment = grind (arith, ints)

no_later : (end clock now life : ℤ) → end ≤ℤ (clock +ℤ life) → clock ≤ℤ now → end ≤ℤ (now +ℤ life)
no_later end clock now life h later = grind (arith, ints)

was_before : (clock now end : ℤ) → clock ≤ℤ now → int_lt now end ≡ true → int_lt clock end ≡ true
was_before clock now end later h = grind (arith, ints)

before_that : (now end last : ℤ) → int_lt now end ≡ true → end ≤ℤ last → int_lt now last ≡ true
before_that now end last h later = grind (arith, ints)

pub stands_moved : (config : RepositoryConfig) (list : FrozenList) (moment : ℤ) (state : RepoState) → Stands config list state → Stands config list (moved moment state)
stands_moved config list moment state stands =
    let now : ℤ = tick state.clock moment in
    let later : state.clock ≤ℤ now = not_back state.clock moment in
    record {
      soon = no_later list.end state.clock now (pos config.lifetime) stands.soon later;
      there = λ before.
          let found = stands.there (was_before state.clock now list.end later before) in (
            found.0,
            found.1,
            found.2,
            found.3,
            find_kept (is_of_number list.number) (is_open_at now) state.open_lists.lists (list_there list state.open_lists found) found.4 (before_that now list.end found.0 before found.2),
          );
    }

-- ---- a command is performed

itself : (a : ℤ) → a ≤ℤ a
itself a = grind (arith, ints)

pub same_test : (config : RepositoryConfig) (clock : ℤ) (number : ℕ) (next : Option ℕ) (other : ℕ) (list : FrozenList) → is_of_number other (carried_on_at config clock number next list) ≡ is_of_number other list
same_test config clock number next other list = ap (λ (n : ℕ). eqb n other) (same_number config clock number next list)

-- the highest cursor falls neither by a token, nor where it was higher before
pub given_rises : (next : Option ℕ) (given : ℕ) → given ≤ highest_given next given
given_rises None given = omega arith
given_rises (Some cursor) given = le-max_left given cursor

given_higher : (next : Option ℕ) (given other : ℕ) → given ≤ other → highest_given next given ≤ highest_given next other
given_higher None given other h = h
given_higher (Some cursor) given other h = omega (arith, h)

-- a list that is carried on, or is not, ends no earlier
still_there : (config : RepositoryConfig) (clock : ℤ) (number : ℕ) (next : Option ℕ) (list : FrozenList) (end : ℤ) (given : ℕ) (test : Bool) → list.end ≤ℤ end → list.given ≤ given → list.end ≤ℤ (clock +ℤ pos config.lifetime)
    → (later : ℤ) × (more : ℕ) × (list.end ≤ℤ later) × (list.given ≤ more)
    × (cond test (record list { end = clock +ℤ pos config.lifetime; given = highest_given next given }) (record list { end = end; given = given }) ≡ record list { end = later; given = more })
still_there config clock number next list end given true within fewer soon =
    let rises = given_rises next given in (clock +ℤ pos config.lifetime, highest_given next given, soon, omega (arith, fewer, rises), refl)
still_there config clock number next list end given false within fewer soon = (end, given, within, fewer, refl)

carried_there : (config : RepositoryConfig) (clock : ℤ) (number : ℕ) (next : Option ℕ) (list : FrozenList) (open_lists : OpenLists) → list.end ≤ℤ (clock +ℤ pos config.lifetime) → IsThere list open_lists
    → IsThere list (with_carried_on config clock number next open_lists)
carried_there config clock number next list open_lists soon there =
    let found : FrozenList = list_there list open_lists there in
    let after = still_there config clock number next list there.0 there.1 (is_of_number number found) there.2 there.3 soon in (
      after.0,
      after.1,
      after.2,
      after.3,
      find_mapped (is_of_number list.number) (carried_on_at config clock number next) (same_test config clock number next list.number) open_lists.lists found there.4 ∙ ap (λ (l : FrozenList). Some l) after.4,
    )

opened_there : (list other : FrozenList) (open_lists : OpenLists) → IsThere list open_lists → IsThere list (with_new_list other open_lists)
opened_there list other open_lists there = (
  there.0,
  there.1,
  there.2,
  there.3,
  find-append (is_of_number list.number) open_lists.lists (other ∷ []) ∙ ap (λ (o : Option FrozenList). option_or o (find (is_of_number list.number) (other ∷ []))) there.4,
)

pub stands_effected : (config : RepositoryConfig) (list : FrozenList) (state : RepoState) (effect : Effect) → Stands config list state → Stands config list (effected config state effect)
stands_effected config list state unchanged stands = stands
stands_effected config list state (item_put item) stands = record { soon = stands.soon; there = stands.there }
stands_effected config list state (item_taken identifier) stands = record { soon = stands.soon; there = stands.there }
stands_effected config list state (items_purged limit) stands = record { soon = stands.soon; there = stands.there }
stands_effected config list state (set_added set) stands = record { soon = stands.soon; there = stands.there }
stands_effected config list state (list_carried_on number next) stands = record {
  soon = stands.soon;
  there = λ before. carried_there config state.clock number next list state.open_lists stands.soon (stands.there before);
}
stands_effected config list state (list_opened other) stands = record {
  soon = stands.soon;
  there = λ before. opened_there list other state.open_lists (stands.there before);
}

-- ---- a list begins to stand

-- one that is opened
pub stands_opened : (config : RepositoryConfig) (state : RepoState) (list : FrozenList) → IsSound config state → list.number ≡ state.open_lists.next → list.end ≡ state.clock +ℤ pos config.lifetime
    → Stands config list (effected config state (list_opened list))
stands_opened config state list sound number lasting = record {
  soon = subst (λ (e : ℤ). list.end ≤ℤ e) lasting (itself list.end);
  there = λ before. (
    list.end,
    list.given,
    itself list.end,
    omega arith,
    find-append (is_of_number list.number) state.open_lists.lists (list ∷ [])
        ∙ ap (λ (o : Option FrozenList). option_or o (find (is_of_number list.number) (list ∷ []))) (ap (λ (n : ℕ). find (is_of_number n) state.open_lists.lists) number ∙ find_ungiven state.open_lists.next state.open_lists.lists sound.given)
        ∙ cond-true (is_of_number list.number list) (Some list) None (own list.number),
  );
}
  where
    own : (n : ℕ) → eqb n n ≡ true
    own n = grind (arith, nat_tests)

-- one that is continued stands with its new end
pub stands_carried_on : (config : RepositoryConfig) (state : RepoState) (next : Option ℕ) (list : FrozenList) → IsThere list state.open_lists
    → Stands config (carried_on config state.clock next list) (effected config state (list_carried_on list.number next))
stands_carried_on config state next list there = record {
  soon = itself (state.clock +ℤ pos config.lifetime);
  there = λ before.
      let found : FrozenList = list_there list state.open_lists there in (
        state.clock +ℤ pos config.lifetime,
        highest_given next there.1,
        itself (state.clock +ℤ pos config.lifetime),
        given_higher next list.given there.1 there.3,
        find_mapped (is_of_number list.number) (carried_on_at config state.clock list.number next) (same_test config state.clock list.number next list.number) state.open_lists.lists found there.4
            ∙ ap (λ (l : FrozenList). Some l) (cond-true (is_of_number list.number list) (carried_on config state.clock next found) found (own list.number)),
      );
}
  where
    own : (n : ℕ) → eqb n n ≡ true
    own n = grind (arith, nat_tests)
