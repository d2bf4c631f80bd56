-- The theorem of a repository from any state on, and over eras.
use Rattle.std.proofs.Common.{◌≡◌, ◌∙◌, inl, inr, ◌≤◌, ℕ, Bool, List, [], ◌∷◌, ◌++◌, map, Option, None, Some, refl, sym, ap, subst, true}
use Rattle.std.specs.Prelude.{nat_lt}
use Rattle.std.specs.List.{AllByRecursion, flat_map, list_all}
use Rattle.std.proofs.lemmas.Bool.{and_from, and_parts}
use Rattle.oai_names.specs.declared.list_verbs.ListVerb.{ListVerb}
use Rattle.oai_lists.specs.declared.lists.TheConstants.{LAST_NUMBER}
use Rattle.oai_item.specs.Formats.{AreRepositoryFormats}
use Rattle.oai_settings.specs.Config.{IsConfig, RepositoryConfig}
use Rattle.oai_repo.specs.Saved.{ended}
use Rattle.oai_repo.specs.State.{RepoState, empty_state}
use Rattle.oai_laws.specs.Eras.{AreEnded, AreHarvestsWithin, AreOldTokensRefused, AreSuccessiveWithin, Era, HaveNumbers, IsHarvestWithin, MissNothingWithin, all_exchanges, left_behind, left_by_era, runs}
use Rattle.oai_laws.specs.Following.{IsOffered, ListQuery, WasOffered}
use Rattle.oai_laws.specs.Harvests.{Harvest, datestamp_of, records_since}
use Rattle.oai_laws.specs.Runs.{IsPart, Throughout, Transition, given_in, numbers_given, numbers_rise_strictly, run}
use Rattle.oai_laws.proofs.EndedLemmas.{IsStanding, standing_behind, standing_empty, standing_ended}
use Rattle.oai_laws.proofs.EraNumberLemmas.{numbers_rise_over}
use Rattle.oai_laws.proofs.EraTokenLemmas.{era_tokens_refused}
use Rattle.oai_laws.proofs.HarvestLemmas.{harvests_copied_from, harvests_within}
use Rattle.oai_http.specs.declared.exchanges.Answer.{Answer}
use Rattle.oai_http.specs.declared.exchanges.Call.{Call}
use Rattle.oai_host.specs.Alone.{answers_alone}
use Rattle.oai_host.specs.Hosts.{none_failed}
use Rattle.oai_headline.specs.Eras.{AreTrueEach, FollowListsEach, HaveNumbersIn, VisitedEra, era_begins, era_leaves, era_steps, eras_leave, steps_within}
use Rattle.oai_headline.specs.Throughout.{AreTrueFrom, FollowLists, IsThroughoutFrom, IsTrueVisit, calls_done, left_by, visits_given, whole_visits}
use Rattle.oai_headline.specs.Visits.{Visit, commands_in, steps_of, visits}
use Rattle.oai_headline.proofs.CarriedLemmas.{calls_behind, steps_run}
use Rattle.oai_headline.proofs.FollowedLemmas.{visits_followed_from}
use Rattle.oai_headline.proofs.GivenLemmas.{whole_among}
use Rattle.oai_headline.proofs.PartLemmas.{following_more, harvest_more, part_append, part_each, part_twice, successive_more}

-- ---- one era

-- what is known of exchanges with a repository, one after the other
pub record AreMetFrom (config : RepositoryConfig) (begun : RepoState) (calls : List Call) (answers : List Answer) (left : RepoState) : Type 0 where
  pub given : AllByRecursion (IsTrueVisit config) (visits_given config begun calls answers)
  pub leaves : left ≡ left_by config begun (calls_done calls answers)
  pub alone : none_failed answers ≡ true → answers ≡ answers_alone config begun calls

-- the steps of those without a fault are among those of what was performed
steps_among : (config : RepositoryConfig) (begun : RepoState) (calls : List Call) (answers : List Answer) → AllByRecursion (IsTrueVisit config) (visits_given config begun calls answers)
    → IsPart (flat_map (steps_of config) (whole_visits (visits_given config begun calls answers))) (run config begun (commands_in config (calls_done calls answers)))
steps_among config begun calls answers given =
    let some : List Visit = whole_visits (visits_given config begun calls answers) in
    let done : List Call = calls_done calls answers in
    subst (IsPart (flat_map (steps_of config) some)) (steps_run config begun done) (part_each (steps_of config) some (visits config begun done) (whole_among config begun calls answers given))

true_from : (config : RepositoryConfig) (begun : RepoState) (calls : List Call) (answers : List Answer) (left : RepoState) → AreMetFrom config begun calls answers left → AreTrueFrom config begun calls answers left
true_from config begun calls answers left met = record { given = met.given; among = whole_among config begun calls answers met.given; state = met.leaves; alone = met.alone }

followed_from : (config : RepositoryConfig) (begun : RepoState) (calls : List Call) (answers : List Answer) → IsConfig config → AreRepositoryFormats config.formats → IsStanding config begun
    → AllByRecursion (IsTrueVisit config) (visits_given config begun calls answers) → FollowLists config (visits_given config begun calls answers)
followed_from config begun calls answers rules formats standing given = λ list_request first others chain.
    let some : List Visit = whole_visits (visits_given config begun calls answers) in
    let done : List Call = calls_done calls answers in
    visits_followed_from config begun done list_request first others rules formats (record { sound = standing.sound; years = standing.timed.years })
    (following_more config some (visits config begun done) list_request first others (whole_among config begun calls answers given) chain)

pub throughout_from : (config : RepositoryConfig) (begun : RepoState) (calls : List Call) (answers : List Answer) (left : RepoState) → IsConfig config → AreRepositoryFormats config.formats → IsStanding config begun
    → AreMetFrom config begun calls answers left → IsThroughoutFrom config begun calls answers left
throughout_from config begun calls answers left rules formats standing met = record {
  answered = true_from config begun calls answers left met;
  followed = followed_from config begun calls answers rules formats standing met.given;
  harvests = λ prefix first others keeps successive.
      let some : List Visit = whole_visits (visits_given config begun calls answers) in
      let done : List Call = calls_done calls answers in
      harvests_copied_from config begun (commands_in config done) prefix first others rules keeps standing
      (successive_more config (flat_map (steps_of config) some) (run config begun (commands_in config done)) prefix first others
      (steps_among config begun calls answers met.given) successive);
}

-- ---- the eras of the machine

-- the commands that were performed in an era
abbrev pub machine_era : RepositoryConfig → VisitedEra → Era
machine_era config era = record { raise = era.raise; commands = commands_in config (calls_done era.calls era.answers) }

abbrev pub machine_eras : RepositoryConfig → List VisitedEra → List Era
machine_eras config eras = map (machine_era config) eras

pub leaves_same : (config : RepositoryConfig) (state : RepoState) (era : VisitedEra) → left_by_era config state (machine_era config era) ≡ era_leaves config state era
leaves_same config state era = calls_behind config (ended era.raise state) (calls_done era.calls era.answers)

pub machine_numbers : (config : RepositoryConfig) (state : RepoState) (eras : List VisitedEra) → HaveNumbersIn config state eras → HaveNumbers config state (machine_eras config eras)
machine_numbers config state [] numbers = tt
machine_numbers config state (era ∷ eras) numbers = (
  numbers.0,
  subst (λ (s : RepoState). HaveNumbers config s (machine_eras config eras)) (sym (leaves_same config state era)) (machine_numbers config (era_leaves config state era) eras numbers.1),
)

pub standing_leaves : (config : RepositoryConfig) (state : RepoState) (era : VisitedEra) → IsConfig config → (era_begins state era).open_lists.next ≤ LAST_NUMBER → IsStanding config state
    → IsStanding config (era_leaves config state era)
standing_leaves config state era rules few standing =
    subst (IsStanding config) (leaves_same config state era)
    (standing_behind config (ended era.raise state) (commands_in config (calls_done era.calls era.answers)) rules (standing_ended config era.raise state few standing))

-- ---- fewer exchanges in each era

-- of each era some of its exchanges
abbrev AreParts : List (List Transition) → List (List Transition) → Type 0
AreParts [] [] = Unit {0}
AreParts [] (whole ∷ wholes) = ⊥
AreParts (some ∷ parts) [] = ⊥
AreParts (some ∷ parts) (whole ∷ wholes) = IsPart some whole × AreParts parts wholes

offered_more : (token : List ℕ) (some whole : List Transition) → IsPart some whole → WasOffered token some → WasOffered token whole
offered_more token some [] part offered = subst (WasOffered token) part offered
offered_more token some (exchange ∷ whole) (inl part) offered = inr (offered_more token some whole part offered)
offered_more token some (exchange ∷ whole) (inr part) offered =
    elim (subst (WasOffered token) part.1 offered) [
      | inl now ↦ inl now
      | inr later ↦ inr (offered_more token part.0 whole part.2 later)
    ]

fewer_throughout : (P : Transition → Type 0) (some whole : List Transition) → IsPart some whole → Throughout P whole → Throughout P some
fewer_throughout P some [] part all = subst (Throughout P) (sym part) tt
fewer_throughout P some (exchange ∷ whole) (inl part) all = fewer_throughout P some whole part all.1
fewer_throughout P some (exchange ∷ whole) (inr part) all = subst (Throughout P) (sym part.1) (all.0, fewer_throughout P part.0 whole part.2 all.1)

refused_fewer : (some whole few all : List Transition) → IsPart some whole → IsPart few all → AreOldTokensRefused whole all → AreOldTokensRefused some few
refused_fewer some whole few all part its refused = λ verb token offered. fewer_throughout _ few all its (refused verb token (offered_more token some whole part offered))

each_refused_fewer : (some whole : List Transition) (parts wholes : List (List Transition)) → IsPart some whole → AreParts parts wholes → AllByRecursion (AreOldTokensRefused whole) wholes → AllByRecursion (AreOldTokensRefused some) parts
each_refused_fewer some whole [] [] part are all = tt
each_refused_fewer some whole [] (y ∷ wholes) part are all = absurd are
each_refused_fewer some whole (x ∷ parts) [] part are all = absurd are
each_refused_fewer some whole (x ∷ parts) (y ∷ wholes) part are all = (refused_fewer some whole x y part are.0 all.0, each_refused_fewer some whole parts wholes part are.1 all.1)

ended_fewer : (parts wholes : List (List Transition)) → AreParts parts wholes → AreEnded wholes → AreEnded parts
ended_fewer [] [] are all = tt
ended_fewer [] (y ∷ wholes) are all = absurd are
ended_fewer (x ∷ parts) [] are all = absurd are
ended_fewer (x ∷ parts) (y ∷ wholes) are all = (each_refused_fewer x y parts wholes are.0 are.1 all.0, ended_fewer parts wholes are.1 all.1)

parts_joined : (parts wholes : List (List Transition)) → AreParts parts wholes → IsPart (all_exchanges parts) (all_exchanges wholes)
parts_joined [] [] are = refl
parts_joined [] (y ∷ wholes) are = absurd are
parts_joined (x ∷ parts) [] are = absurd are
parts_joined (x ∷ parts) (y ∷ wholes) are = part_append x y (all_exchanges parts) (all_exchanges wholes) are.0 (parts_joined parts wholes are.1)

-- what holds of each number holds of each of a part, and a part of numbers that rise rises
all_fewer : (test : ℕ → Bool) (some whole : List ℕ) → IsPart some whole → list_all test whole ≡ true → list_all test some ≡ true
all_fewer test some [] part all = ap (list_all test) part
all_fewer test some (n ∷ whole) (inl part) all = all_fewer test some whole part (and_parts (test n) (list_all test whole) all).1
all_fewer test some (n ∷ whole) (inr part) all =
    let parts = and_parts (test n) (list_all test whole) all in
    ap (list_all test) part.1 ∙ and_from (test n) (list_all test part.0) parts.0 (all_fewer test part.0 whole part.2 parts.1)

rising_fewer : (some whole : List ℕ) → IsPart some whole → numbers_rise_strictly whole ≡ true → numbers_rise_strictly some ≡ true
rising_fewer some [] part rising = ap numbers_rise_strictly part
rising_fewer some (n ∷ whole) (inl part) rising = rising_fewer some whole part (and_parts (list_all (nat_lt n) whole) (numbers_rise_strictly whole) rising).1
rising_fewer some (n ∷ whole) (inr part) rising =
    let parts = and_parts (list_all (nat_lt n) whole) (numbers_rise_strictly whole) rising in
    ap numbers_rise_strictly part.1
    ∙ and_from (list_all (nat_lt n) part.0) (numbers_rise_strictly part.0) (all_fewer (nat_lt n) part.0 whole part.2 parts.0) (rising_fewer part.0 whole part.2 parts.1)

within_more : (config : RepositoryConfig) (parts wholes : List (List Transition)) (list_request : ListQuery) (harvest : Harvest) → AreParts parts wholes → IsHarvestWithin config parts list_request harvest
    → IsHarvestWithin config wholes list_request harvest
within_more config [] [] list_request harvest are its = its
within_more config [] (y ∷ wholes) list_request harvest are its = absurd are
within_more config (x ∷ parts) [] list_request harvest are its = absurd are
within_more config (x ∷ parts) (y ∷ wholes) list_request harvest are (inl its) =
    inl (part_twice (harvest.first ∷ []) x y its.0 are.0, harvest_more config x y list_request harvest are.0 its.1)
within_more config (x ∷ parts) (y ∷ wholes) list_request harvest are (inr its) = inr (within_more config parts wholes list_request harvest are.1 its)

all_within_more : (config : RepositoryConfig) (parts wholes : List (List Transition)) (prefix : List ℕ) (from : Option (List ℕ)) (harvests : List Harvest) → AreParts parts wholes
    → AreHarvestsWithin config parts prefix from harvests → AreHarvestsWithin config wholes prefix from harvests
all_within_more config parts wholes prefix from [] are its = tt
all_within_more config parts wholes prefix from (harvest ∷ harvests) are its = (
  within_more config parts wholes (records_since prefix from) harvest are its.0,
  all_within_more config parts wholes prefix (Some (datestamp_of config harvest)) harvests are its.1,
)

-- ---- over eras

-- what is known of each era
abbrev pub AreMetEach : RepositoryConfig → RepoState → List VisitedEra → Type 0
AreMetEach config state [] = Unit {0}
AreMetEach config state (era ∷ eras) =
    AreMetFrom config (era_begins state era) era.calls era.answers (era_leaves config state era) × AreMetEach config (era_leaves config state era) eras

pub true_each : (config : RepositoryConfig) (state : RepoState) (eras : List VisitedEra) → AreMetEach config state eras → AreTrueEach config state eras
true_each config state [] met = tt
true_each config state (era ∷ eras) met = (true_from config (era_begins state era) era.calls era.answers (era_leaves config state era) met.0, true_each config (era_leaves config state era) eras met.1)

pub followed_each : (config : RepositoryConfig) (state : RepoState) (eras : List VisitedEra) → IsConfig config → AreRepositoryFormats config.formats → IsStanding config state → HaveNumbersIn config state eras
    → AreMetEach config state eras → FollowListsEach config state eras
followed_each config state [] rules formats standing numbers met = tt
followed_each config state (era ∷ eras) rules formats standing numbers met = (
  followed_from config (era_begins state era) era.calls era.answers rules formats (standing_ended config era.raise state numbers.0 standing) met.0.given,
  followed_each config (era_leaves config state era) eras rules formats (standing_leaves config state era rules numbers.0 standing) numbers.1 met.1,
)

parts_of_runs : (config : RepositoryConfig) (state : RepoState) (eras : List VisitedEra) → AreMetEach config state eras → AreParts (steps_within config state eras) (runs config state (machine_eras config eras))
parts_of_runs config state [] met = tt
parts_of_runs config state (era ∷ eras) met = (
  steps_among config (era_begins state era) era.calls era.answers met.0.given,
  subst (λ (s : RepoState). AreParts (steps_within config (era_leaves config state era) eras) (runs config s (machine_eras config eras))) (sym (leaves_same config state era))
      (parts_of_runs config (era_leaves config state era) eras met.1),
)

-- a token that was handed out in one era is refused in all later ones
pub ended_over : (config : RepositoryConfig) (eras : List VisitedEra) → IsConfig config → HaveNumbersIn config (empty_state config) eras → AreMetEach config (empty_state config) eras
    → AreEnded (steps_within config (empty_state config) eras)
ended_over config eras rules numbers met =
    let state : RepoState = empty_state config in
    let machine : List Era = machine_eras config eras in
    ended_fewer (steps_within config state eras) (runs config state machine) (parts_of_runs config state eras met)
    (era_tokens_refused config machine state rules (standing_empty config rules).sound (machine_numbers config state eras numbers))

-- the numbers of lists rise
pub rising_over : (config : RepositoryConfig) (eras : List VisitedEra) → HaveNumbersIn config (empty_state config) eras → AreMetEach config (empty_state config) eras
    → numbers_rise_strictly (numbers_given (all_exchanges (steps_within config (empty_state config) eras))) ≡ true
rising_over config eras numbers met =
    let state : RepoState = empty_state config in
    let machine : List Era = machine_eras config eras in
    let steps : List (List Transition) = steps_within config state eras in
    let whole : List (List Transition) = runs config state machine in
    rising_fewer (numbers_given (all_exchanges steps)) (numbers_given (all_exchanges whole))
    (part_each given_in (all_exchanges steps) (all_exchanges whole) (parts_joined steps whole (parts_of_runs config state eras met)))
    (numbers_rise_over config machine (machine_numbers config state eras numbers))

-- harvests miss nothing
pub copied_over : (config : RepositoryConfig) (eras : List VisitedEra) → IsConfig config → HaveNumbersIn config (empty_state config) eras → AreMetEach config (empty_state config) eras
    → MissNothingWithin config (steps_within config (empty_state config) eras)
copied_over config eras rules numbers met = λ prefix first others keeps s.
    let state : RepoState = empty_state config in
    let machine : List Era = machine_eras config eras in
    let parts = parts_of_runs config state eras met in
    let steps : List (List Transition) = steps_within config state eras in
    let whole : List (List Transition) = runs config state machine in
    harvests_within config state machine prefix first others rules keeps (standing_empty config rules) (machine_numbers config state eras numbers)
    (record {
      begun = part_twice (map (λ (harvest : Harvest). harvest.first) (first ∷ others)) (all_exchanges steps) (all_exchanges whole) s.begun (parts_joined steps whole parts);
      harvests = all_within_more config steps whole prefix None (first ∷ others) parts s.harvests;
    })
