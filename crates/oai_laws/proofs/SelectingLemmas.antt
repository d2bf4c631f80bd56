-- Every datestamp lies between earliestDatestamp and the clock, and a list request selects just what it asks for.
use Rattle.std.proofs.Common.{◌≡◌, ℕ, ℤ, pos, neg_ℤ, ◌≤ℤ◌, true, not, ◌&&◌, List, [], ◌∷◌, Option, None, Some, IfSome, refl, sym, subst, arith}
use Rattle.std.specs.Prelude.{int_le}
use Rattle.std.specs.List.{Contains, list_all}
use Rattle.std.specs.Ordering.{int_eq}
use Rattle.std.proofs.lemmas.Bool.{and_from, and_parts}
use Rattle.std.proofs.lemmas.Bool.Decides.{Decides-int_eq}
use Rattle.std.proofs.lemmas.Int.{ints}
use Rattle.std.proofs.lemmas.List.Elements.{All-contains}
use Rattle.std.proofs.lemmas.List.Folds.{Any-from_list_any, list_any-from_Any}
use Rattle.std.proofs.lemmas.List.Sums.{AllPass-from_list_all}
use Rattle.oai_names.specs.Sets.{covers}
use Rattle.oai_names.proofs.Covering.{covers-Decides}
use Rattle.oai_time.specs.Bound.{bound_of}
use Rattle.oai_time.specs.Clock.{tick}
use Rattle.oai_time.specs.Stamp.{IsWritable, stamp_of}
use Rattle.oai_time.specs.declared.bound.Bound.{Bound}
use Rattle.oai_time.specs.declared.granularity.Granularity.{Granularity}
use Rattle.oai_time.specs.declared.granularity.Granularity.TheVariants.{Day, Second}
use Rattle.oai_time.proofs.BoundLemmas.{stamp_of-IsMidnight}
use Rattle.oai_time.proofs.ReadingLemmas.{bound_of_found, bound_of_is}
use Rattle.oai_time.proofs.StampLemmas.{stamp_of-in_order, stamp_of-not_after}
use Rattle.oai_item.specs.Item.{ItemState}
use Rattle.oai_item.specs.Items.{without}
use Rattle.oai_item.specs.Membership.{is_in}
use Rattle.oai_item.specs.Selection.{Filter, IsSelected}
use Rattle.oai_names.proofs.Lists.{all-filter, all-weaker}
use Rattle.oai_item.proofs.OrderLemmas.{all-placed}
use Rattle.oai_item.proofs.Selecting.{contains_selected, in_order-selected}
use Rattle.oai_args.specs.Bounds.{given_bound}
use Rattle.oai_settings.specs.Config.{IsConfig, RepositoryConfig, is_date, is_in_years}
use Rattle.oai_repo.specs.Answers.{filter_of, lower_given, upper_given}
use Rattle.oai_holdings.specs.Changes.{stamp_at}
use Rattle.oai_repo.specs.Machine.{Command, act}
use Rattle.oai_repo.specs.State.{RepoState, empty_state, moved}
use Rattle.oai_laws.specs.Effects.{Effect, IsPossible, IsSound, effected, goes_below, item_put, item_taken, items_purged, list_opened, list_carried_on, set_added, unchanged}
use Rattle.oai_laws.specs.Following.{ListQuery, selection_in}
use Rattle.oai_laws.specs.Runs.{Throughout, Timed, Transition, performed, run}
use Rattle.oai_laws.specs.Selecting.{IsAskedFor, IsFrom, IsInSet, IsSelection, IsUntil, has_granular_stamp}
use Rattle.oai_repo.proofs.ClockLemmas.{in_years-config, in_years-tick, writable}
use Rattle.oai_holdings.proofs.KeptLemmas.{well-without}
use Rattle.oai_laws.proofs.EffectLemmas.{effect_of, sound_act, sound_empty, sound_moved}

-- ---- datestamps

-- what is true of the times of a state
pub record IsTimed (config : RepositoryConfig) (state : RepoState) : Type 0 where
  pub years : is_in_years state.clock ≡ true
  pub begun : int_le config.earliest state.clock ≡ true
  pub dated : list_all (has_granular_stamp config state.clock) state.holdings.items ≡ true

le_own : (z : ℤ) → int_le z z ≡ true
le_own z = grind (arith, ints)

le_test : (a b : ℤ) → a ≤ℤ b → int_le a b ≡ true
le_test a b h = grind (arith, ints)

le_later : (a b c : ℤ) → int_le a b ≡ true → b ≤ℤ c → int_le a c ≡ true
le_later a b c h g = grind (arith, ints)

-- a repository begins at its earliestDatestamp
pub timed_empty : (config : RepositoryConfig) → IsConfig config → IsTimed config (empty_state config)
timed_empty config good = record { years = in_years-config config good; begun = le_own config.earliest; dated = refl }

-- the clock never goes back
tick_later : (clock moment : ℤ) → clock ≤ℤ tick clock moment
tick_later clock moment = grind (arith, ints)

dated_later : (config : RepositoryConfig) (clock later : ℤ) → clock ≤ℤ later → (item : ItemState) → has_granular_stamp config clock item ≡ true → has_granular_stamp config later item ≡ true
dated_later config clock later after item h =
    let parts = and_parts (int_le config.earliest item.stamp && int_le item.stamp clock) (int_eq (stamp_of config.granularity item.stamp) item.stamp) h in
    let between = and_parts (int_le config.earliest item.stamp) (int_le item.stamp clock) parts.0 in
    and_from (int_le config.earliest item.stamp && int_le item.stamp later) (int_eq (stamp_of config.granularity item.stamp) item.stamp)
    (and_from (int_le config.earliest item.stamp) (int_le item.stamp later) between.0 (le_later item.stamp clock later between.1 after)) parts.1

pub timed_moved : (config : RepositoryConfig) (moment : ℤ) (state : RepoState) → IsTimed config state → IsTimed config (moved moment state)
timed_moved config moment state timed =
    let later : ℤ = tick state.clock moment in
    record {
      years = in_years-tick state.clock moment timed.years;
      begun = le_later config.earliest state.clock later timed.begun (tick_later state.clock moment);
      dated = all-weaker (has_granular_stamp config state.clock) (has_granular_stamp config later) (dated_later config state.clock later (tick_later state.clock moment)) state.holdings.items timed.dated;
    }

-- the datestamp of a datestamp is that datestamp
stamp_again : (granularity : Granularity) (clock : ℤ) → IsWritable clock → stamp_of granularity (stamp_of granularity clock) ≡ stamp_of granularity clock
stamp_again Day clock h = (stamp_of-IsMidnight clock h).1
stamp_again Second clock h = refl

-- earliestDatestamp is one of the repository's granularity
earliest_stamp : (config : RepositoryConfig) → IsConfig config → stamp_of config.granularity config.earliest ≡ config.earliest
unfolding is_date
earliest_stamp config good =
    (Decides-int_eq (stamp_of config.granularity config.earliest) config.earliest).0
    (and_parts (is_in_years config.earliest) (int_eq (stamp_of config.granularity config.earliest) config.earliest) good.dated).1

le_from : (a b : ℤ) → int_le a b ≡ true → a ≤ℤ b
le_from a b h = grind (arith, ints)

-- an item with the datestamp of the clock
dated_now : (config : RepositoryConfig) (clock : ℤ) (item : ItemState) → IsConfig config → is_in_years clock ≡ true → int_le config.earliest clock ≡ true → item.stamp ≡ stamp_at config clock
    → has_granular_stamp config clock item ≡ true
dated_now config clock item good years open_lists is =
    let stamp : ℤ = stamp_at config clock in
    let from : config.earliest ≤ℤ stamp =
    subst (λ (z : ℤ). z ≤ℤ stamp) (earliest_stamp config good) (stamp_of-in_order config.granularity config.earliest clock (le_from config.earliest clock open_lists))
    in
    let same : int_eq (stamp_of config.granularity stamp) stamp ≡ true =
    (Decides-int_eq (stamp_of config.granularity stamp) stamp).1 (stamp_again config.granularity clock (writable clock years))
    in
    subst (λ (s : ℤ). (int_le config.earliest s && int_le s clock && int_eq (stamp_of config.granularity s) s) ≡ true) (sym is)
    (and_from (int_le config.earliest stamp && int_le stamp clock) (int_eq (stamp_of config.granularity stamp) stamp)
    (and_from (int_le config.earliest stamp) (int_le stamp clock) (le_test config.earliest stamp from) (le_test stamp clock (stamp_of-not_after config.granularity clock))) same)

-- after each effect that is possible
timed_effected : (config : RepositoryConfig) (state : RepoState) (effect : Effect) → IsConfig config → IsPossible config state effect → IsTimed config state → IsTimed config (effected config state effect)
timed_effected config state unchanged good possible timed = timed
timed_effected config state (item_put item) good possible timed = record {
  years = timed.years;
  begun = timed.begun;
  dated = all-placed (has_granular_stamp config state.clock) item (without item.identifier state.holdings.items)
      (dated_now config state.clock item good timed.years timed.begun possible.dated)
      (well-without (has_granular_stamp config state.clock) item.identifier state.holdings.items timed.dated);
}
timed_effected config state (item_taken identifier) good possible timed =
    record { years = timed.years; begun = timed.begun; dated = well-without (has_granular_stamp config state.clock) identifier state.holdings.items timed.dated }
timed_effected config state (items_purged limit) good possible timed =
    record { years = timed.years; begun = timed.begun; dated = all-filter (has_granular_stamp config state.clock) (λ item. not (goes_below limit item)) state.holdings.items timed.dated }
timed_effected config state (set_added set) good possible timed = record { years = timed.years; begun = timed.begun; dated = timed.dated }
timed_effected config state (list_carried_on number next) good possible timed = record { years = timed.years; begun = timed.begun; dated = timed.dated }
timed_effected config state (list_opened list) good possible timed = record { years = timed.years; begun = timed.begun; dated = timed.dated }

pub timed_act : (config : RepositoryConfig) (state : RepoState) (command : Command) → IsConfig config → IsSound config state → IsTimed config state → IsTimed config (act config state command).1
timed_act config state command good sound timed =
    let done = effect_of config state command sound in
    subst (IsTimed config) (sym done.done) (timed_effected config state done.effect good done.possible timed)

-- ---- the bounds

-- each datestamp is one of all that the bounds of a request can name
not_below_all : (earliest stamp : ℤ) → is_in_years earliest ≡ true → int_le earliest stamp ≡ true → neg_ℤ (pos 62_167_219_200) ≤ℤ stamp
not_below_all earliest stamp years from = grind (arith, ints)

not_above_all : (clock stamp : ℤ) → is_in_years clock ≡ true → int_le stamp clock ≡ true → stamp ≤ℤ pos 253_402_300_799
not_above_all clock stamp years until = grind (arith, ints)

from_given : (from : Option (List ℕ)) (stamp : ℤ) → lower_given (given_bound from) ≤ℤ stamp → IfSome from (λ text. IsFrom text stamp)
from_given None stamp h = tt
from_given (Some text) stamp h = λ bound is. subst (λ (found : Option Bound). lower_given found ≤ℤ stamp) (bound_of_found text bound is) h

given_from : (from : Option (List ℕ)) (stamp : ℤ) → neg_ℤ (pos 62_167_219_200) ≤ℤ stamp → IfSome from (λ text. IsFrom text stamp) → lower_given (given_bound from) ≤ℤ stamp
given_from None stamp low h = low
given_from (Some text) stamp low h = by_bound (bound_of text) refl
  where
    by_bound : (found : Option Bound) → bound_of text ≡ found → lower_given found ≤ℤ stamp
    by_bound None is = low
    by_bound (Some bound) is = h bound (bound_of_is text bound is)

until_given : (until : Option (List ℕ)) (stamp : ℤ) → stamp ≤ℤ upper_given (given_bound until) → IfSome until (λ text. IsUntil text stamp)
until_given None stamp h = tt
until_given (Some text) stamp h = λ bound is. subst (λ (found : Option Bound). stamp ≤ℤ upper_given found) (bound_of_found text bound is) h

given_until : (until : Option (List ℕ)) (stamp : ℤ) → stamp ≤ℤ pos 253_402_300_799 → IfSome until (λ text. IsUntil text stamp) → stamp ≤ℤ upper_given (given_bound until)
given_until None stamp high h = high
given_until (Some text) stamp high h = by_bound (bound_of text) refl
  where
    by_bound : (found : Option Bound) → bound_of text ≡ found → stamp ≤ℤ upper_given found
    by_bound None is = high
    by_bound (Some bound) is = h bound (bound_of_is text bound is)

-- ---- the set

in_set_from : (set : List ℕ) (specs : List (List ℕ)) → is_in set specs ≡ true → IsInSet set specs
unfolding is_in
in_set_from set specs h =
    let found = Any-from_list_any (covers set) specs h in (found.1, (found.0, found.2, found.3), (covers-Decides set found.1).0 found.4)

from_in_set : (set : List ℕ) (specs : List (List ℕ)) → IsInSet set specs → is_in set specs ≡ true
unfolding is_in
from_in_set set specs h =
    list_any-from_Any (covers set) specs (h.1.0, h.0, h.1.1, h.1.2, (covers-Decides set h.0).1 h.2)

set_given : (set : Option (List ℕ)) (specs : List (List ℕ)) → IfSome set (λ s. is_in s specs ≡ true) → IfSome set (λ s. IsInSet s specs)
set_given None specs h = tt
set_given (Some set) specs h = in_set_from set specs h

given_set : (set : Option (List ℕ)) (specs : List (List ℕ)) → IfSome set (λ s. IsInSet s specs) → IfSome set (λ s. is_in s specs ≡ true)
given_set None specs h = tt
given_set (Some set) specs h = from_in_set set specs h

-- ---- the selection

asked_for : (list_request : ListQuery) (items : List ItemState) (item : ItemState) → IsSelected (filter_of list_request.prefix list_request.from list_request.until list_request.set) items item → IsAskedFor list_request item
asked_for list_request items item h = record {
  prefix = h.has_prefix;
  from = from_given list_request.from item.stamp h.from;
  until = until_given list_request.until item.stamp h.until;
  set = set_given list_request.set item.sets h.in_set;
}

-- where each datestamp is one that the bounds can name
selected_for : (config : RepositoryConfig) (clock : ℤ) (list_request : ListQuery) (items : List ItemState) (item : ItemState) → is_in_years config.earliest ≡ true → is_in_years clock ≡ true
    → has_granular_stamp config clock item ≡ true → Contains items item → IsAskedFor list_request item → IsSelected (filter_of list_request.prefix list_request.from list_request.until list_request.set) items item
selected_for config clock list_request items item earliest years dated stands asked =
    let parts = and_parts (int_le config.earliest item.stamp && int_le item.stamp clock) (int_eq (stamp_of config.granularity item.stamp) item.stamp) dated in
    let between = and_parts (int_le config.earliest item.stamp) (int_le item.stamp clock) parts.0 in
    record {
      stands = stands;
      has_prefix = asked.prefix;
      from = given_from list_request.from item.stamp (not_below_all config.earliest item.stamp earliest between.0) asked.from;
      until = given_until list_request.until item.stamp (not_above_all clock item.stamp years between.1) asked.until;
      in_set = given_set list_request.set item.sets asked.set;
    }

pub selection_is : (config : RepositoryConfig) (state : RepoState) (list_request : ListQuery) → IsConfig config → IsSound config state → IsTimed config state → IsSelection list_request state.holdings.items (selection_in state list_request)
selection_is config state list_request good sound timed =
    let items : List ItemState = state.holdings.items in
    let asked : Filter = filter_of list_request.prefix list_request.from list_request.until list_request.set in
    record {
      members = λ item. (
        (λ h. let found = (contains_selected asked items item).0 h in (found.stands, asked_for list_request items item found)),
        (λ h. (contains_selected asked items item).1 (selected_for config state.clock list_request items item (in_years-config config good) timed.years
            (All-contains (λ (x : ItemState). has_granular_stamp config state.clock x ≡ true) items item (AllPass-from_list_all (has_granular_stamp config state.clock) items timed.dated) h.0) h.0 h.1)),
      );
      ordered = in_order-selected asked items sound.kept.ordered;
    }

-- ---- in the course of time

abbrev pub IsSelectionAt : ListQuery → Transition → Type 0
IsSelectionAt list_request exchange = IsSelection list_request exchange.found.holdings.items (selection_in exchange.found list_request)

abbrev pub IsDatedAfter : RepositoryConfig → Transition → Type 0
IsDatedAfter config exchange = list_all (has_granular_stamp config exchange.left.clock) exchange.left.holdings.items ≡ true

pub selected_from : (config : RepositoryConfig) (commands : List Timed) (state : RepoState) (list_request : ListQuery) → IsConfig config → IsSound config state → IsTimed config state → Throughout (IsSelectionAt list_request) (run config state commands)
selected_from config [] state list_request good sound times = tt
selected_from config (timed ∷ commands) state list_request good sound times =
    let found : RepoState = moved timed.moment state in
    let sound_found = sound_moved config timed.moment state sound in
    let timed_found = timed_moved config timed.moment state times in (
      selection_is config found list_request good sound_found timed_found,
      selected_from config commands (performed config state timed).left list_request good (sound_act config found timed.command sound_found) (timed_act config found timed.command good sound_found timed_found),
    )

dated_from : (config : RepositoryConfig) (commands : List Timed) (state : RepoState) → IsConfig config → IsSound config state → IsTimed config state → Throughout (IsDatedAfter config) (run config state commands)
dated_from config [] state good sound times = tt
dated_from config (timed ∷ commands) state good sound times =
    let found : RepoState = moved timed.moment state in
    let sound_found = sound_moved config timed.moment state sound in
    let left = timed_act config found timed.command good sound_found (timed_moved config timed.moment state times) in (
      left.dated,
      dated_from config commands (performed config state timed).left good (sound_act config found timed.command sound_found) left,
    )

pub selected_throughout : (config : RepositoryConfig) (commands : List Timed) (list_request : ListQuery) → IsConfig config → Throughout (IsSelectionAt list_request) (run config (empty_state config) commands)
selected_throughout config commands list_request good = selected_from config commands (empty_state config) list_request good (sound_empty config) (timed_empty config good)

pub dated_throughout : (config : RepositoryConfig) (commands : List Timed) → IsConfig config → Throughout (IsDatedAfter config) (run config (empty_state config) commands)
dated_throughout config commands good = dated_from config commands (empty_state config) good (sound_empty config) (timed_empty config good)
