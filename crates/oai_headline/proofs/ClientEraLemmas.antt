-- Tokens and harvests over eras, in a client's words.
use Rattle.std.proofs.Common.{◌≡◌, ◌∙◌, inl, inr, ℕ, List, [], ◌∷◌, ◌++◌, map, Option, None, Some, refl, sym, ap, subst}
use Rattle.std.specs.List.{AllByRecursion, AllZip, flat_map}
use Rattle.oai_names.specs.declared.list_verbs.ListVerb.{ListVerb}
use Rattle.oai_args.specs.Asks.{asks}
use Rattle.oai_args.specs.declared.requests.Ask.TheVariants as ask
use Rattle.oai_answers.specs.Answers.{fails}
use Rattle.oai_answers.specs.declared.errors.ErrorCode.TheVariants.{BadResumptionToken}
use Rattle.oai_item.specs.Formats.{AreRepositoryFormats}
use Rattle.oai_item.specs.declared.deleted_record.DeletedRecord.TheVariants.{Persistent}
use Rattle.oai_time.specs.declared.granularity.Granularity.{Granularity}
use Rattle.oai_settings.specs.Config.{IsConfig, RepositoryConfig}
use Rattle.oai_repo.specs.Machine.{Outcome, accepted, documented, later, outcome_output, refused_with}
use Rattle.oai_repo.specs.State.{RepoState, empty_state}
use Rattle.oai_laws.specs.Eras.{AreEnded, AreHarvestsWithin, AreOldTokensRefused, IsHarvestWithin, all_exchanges, runs}
use Rattle.oai_laws.specs.Following.{IsOffered, TokenOffer, WasOffered, answer_in, next_request}
use Rattle.oai_laws.specs.Harvests.{Harvest, datestamp_of, records_since}
use Rattle.oai_laws.specs.Runs.{IsPart, Throughout, Transition, run}
use Rattle.oai_laws.proofs.EndedLemmas.{IsStanding, standing_empty, standing_ended}
use Rattle.oai_laws.proofs.EraTokenLemmas.{era_tokens_refused}
use Rattle.oai_laws.proofs.HarvestLemmas.{harvests_within, throughout_at}
use Rattle.oai_config.specs.Configs.{NamedConfig}
use Rattle.oai_http.specs.declared.exchanges.Answer.{Answer}
use Rattle.oai_http.specs.declared.exchanges.Call.{Call}
use Rattle.oai_host.specs.Answers.{answer_of}
use Rattle.oai_headline.specs.Chains.{IsPrinted, IsRequest}
use Rattle.oai_headline.specs.ClientHarvests.{AreClientHarvestsWithin, AreSuccessiveByClientWithin, ClientHarvest, IsClientHarvestWithin, IsWholeClientCopy, all_visits, client_copy, datestamp_in, last_client_harvest}
use Rattle.oai_headline.specs.Eras.{AreTokensEnded, AreTokensRefused, AreTrueEach, AreTrueOver, FollowListsOver, HaveNumbersIn, IsTokenRefused, MissNothingOver, VisitedEra, era_begins, era_leaves, era_visits, visits_within}
use Rattle.oai_startup.specs.Rules.{HasRules}
use Rattle.oai_headline.specs.Throughout.{calls_done}
use Rattle.oai_headline.specs.Visits.{Visit, commands_in, found_by, steps_of, visits}
use Rattle.oai_headline.proofs.CarriedLemmas.{steps_run}
use Rattle.oai_headline.proofs.ClientHarvestLemmas.{IsToldAs, copied_told, first_in, harvest_met, taken_once}
use Rattle.oai_headline.proofs.EraLemmas.{AreMetEach, copied_over, ended_over, followed_each, leaves_same, machine_era, machine_eras, machine_numbers, rising_over, standing_leaves, true_each}
use Rattle.oai_headline.proofs.FollowedLemmas.{its_command}
use Rattle.oai_headline.proofs.PartLemmas.{part_append, part_twice}
use Rattle.oai_headline.proofs.PrintingLemmas.{alone_visit, printing_asks}
use Rattle.oai_headline.proofs.TakenLemmas.{AreTaken, IsAsking, IsReachable, IsTaken, taken, taken_offer, taken_written}

reachable_standing : (config : RepositoryConfig) (state : RepoState) → IsStanding config state → IsReachable config state
reachable_standing config state standing = record { sound = standing.sound; years = standing.timed.years }

-- ---- a token that was printed

was_offered : (token : List ℕ) (step : Transition) (whole : List Transition) → IsOffered token step.outcome → IsPart (step ∷ []) whole → WasOffered token whole
was_offered token step [] is part = cc
was_offered token step (e ∷ whole) is (inl part) = inr (was_offered token step whole is part)
was_offered token step (e ∷ whole) is (inr here) = let same : e ≡ step = cc in inl (subst (λ (x : Transition). IsOffered token x.outcome) (sym same) is)

-- was offered by the machine
token_offered : (config : RepositoryConfig) (begun : RepoState) (done : List Call) (all : List Visit) (before : Visit) (offer : TokenOffer) → IsConfig config → AreRepositoryFormats config.formats
    → IsReachable config begun → IsPart all (visits config begun done) → IsPart (before ∷ []) all → IsPrinted before.answer offer
    → WasOffered offer.token (run config begun (commands_in config done))
token_offered config begun done all before offer rules formats reachable among part printed =
    let whole : List Visit = visits config begun done in
    let its : IsPart (before ∷ []) whole = part_twice (before ∷ []) all whole part among in
    let steps = taken config begun done (before ∷ []) reachable (printing_asks config before offer (alone_visit config begun done before its) printed, tt) its in
    by steps.steps steps.each (subst (IsPart steps.steps) (steps_run config begun done) steps.among)
  where
    by : (steps : List Transition) → AllZip (IsTaken config) (before ∷ []) steps → IsPart steps (run config begun (commands_in config done))
        → WasOffered offer.token (run config begun (commands_in config done))
    by [] each own = absurd each
    by (step ∷ next ∷ steps) each own = absurd each.1
    by (step ∷ []) each own =
        let told = taken_offer config before step offer rules formats each.0 printed in
        was_offered offer.token step (run config begun (commands_in config done))
        (record { page = told.0; offer = offer; told = told.1; offered = told.2; same = refl }) own

refused_answer : (g : Granularity) (outcome : Outcome) (answer : Answer) → answer ≡ answer_of (outcome_output g outcome) → answer_in outcome ≡ Some (fails BadResumptionToken) → IsTokenRefused answer
unfolding outcome_output
refused_answer g (documented its) answer written told = record { its = its; written = written; told = let e : its.answer ≡ fails BadResumptionToken = cc in e }
refused_answer g (later seconds) answer written told = cc
refused_answer g (accepted stamp) answer written told = cc
refused_answer g (refused_with cause) answer written told = cc

-- one that the machine refuses is answered so
token_refused : (config : RepositoryConfig) (begun : RepoState) (done : List Call) (all : List Visit) (after : Visit) (verb : ListVerb) (token : List ℕ) → IsReachable config begun
    → IsPart all (visits config begun done) → IsPart (after ∷ []) all → IsRequest config.granularity after.call (asks (ask.Resume verb token))
    → Throughout (λ (exchange : Transition). exchange.command ≡ next_request verb token → answer_in exchange.outcome ≡ Some (fails BadResumptionToken))
    (run config begun (commands_in config done)) → IsTokenRefused after.answer
token_refused config begun done all after verb token reachable among part asked refused =
    let whole : List Visit = visits config begun done in
    let steps = taken config begun done (after ∷ []) reachable (record { arguments = asked.arguments; asked = asked.asked }, tt) (part_twice (after ∷ []) all whole part among) in
    by steps.steps steps.each (subst (IsPart steps.steps) (steps_run config begun done) steps.among)
  where
    by : (steps : List Transition) → AllZip (IsTaken config) (after ∷ []) steps → IsPart steps (run config begun (commands_in config done)) → IsTokenRefused after.answer
    by [] each own = absurd each
    by (step ∷ next ∷ steps) each own = absurd each.1
    by (step ∷ []) each own =
        refused_answer config.granularity step.outcome after.answer (taken_written config after step each.0)
        (throughout_at (λ (exchange : Transition). exchange.command ≡ next_request verb token → answer_in exchange.outcome ≡ Some (fails BadResumptionToken)) step
        (run config begun (commands_in config done)) refused own (its_command config after step _ each.0 asked))

-- what one era prints, in eras behind it
tokens_refused : (config : RepositoryConfig) (begun : RepoState) (done : List Call) (all : List Visit) (state : RepoState) (eras : List VisitedEra) → IsConfig config → AreRepositoryFormats config.formats
    → IsReachable config begun → IsPart all (visits config begun done) → IsStanding config state → HaveNumbersIn config state eras → AreTrueEach config state eras
    → AllByRecursion (AreOldTokensRefused (run config begun (commands_in config done))) (runs config state (machine_eras config eras))
    → AllByRecursion (AreTokensRefused config all) (visits_within config state eras)
tokens_refused config begun done all state [] rules formats reachable among standing numbers true_in refused = tt
tokens_refused config begun done all state (era ∷ eras) rules formats reachable among standing numbers true_in refused =
    let left : RepoState = era_leaves config state era in
    let first = reachable_standing config (era_begins state era) (standing_ended config era.raise state numbers.0 standing) in (
      λ before after offer verb part printed later asked.
          token_refused config (era_begins state era) (calls_done era.calls era.answers) (era_visits config state era) after verb offer.token first true_in.0.among later asked
          (refused.0 verb offer.token (token_offered config begun done all before offer rules formats reachable among part printed)),
      tokens_refused config begun done all left eras rules formats reachable among (standing_leaves config state era rules numbers.0 standing) numbers.1 true_in.1
          (subst (λ (s : RepoState). AllByRecursion (AreOldTokensRefused (run config begun (commands_in config done))) (runs config s (machine_eras config eras))) (leaves_same config state era) refused.1),
    )

tokens_ended : (config : RepositoryConfig) (state : RepoState) (eras : List VisitedEra) → IsConfig config → AreRepositoryFormats config.formats → IsStanding config state → HaveNumbersIn config state eras
    → AreTrueEach config state eras → AreEnded (runs config state (machine_eras config eras)) → AreTokensEnded config (visits_within config state eras)
tokens_ended config state [] rules formats standing numbers true_in ended = tt
tokens_ended config state (era ∷ eras) rules formats standing numbers true_in ended =
    let left : RepoState = era_leaves config state era in
    let begun : RepoState = era_begins state era in
    let done : List Call = calls_done era.calls era.answers in
    let later = standing_leaves config state era rules numbers.0 standing in (
      tokens_refused config begun done (era_visits config state era) left eras rules formats
          (reachable_standing config begun (standing_ended config era.raise state numbers.0 standing)) true_in.0.among later numbers.1 true_in.1
          (subst (λ (s : RepoState). AllByRecursion (AreOldTokensRefused (run config begun (commands_in config done))) (runs config s (machine_eras config eras))) (leaves_same config state era) ended.0),
      tokens_ended config left eras rules formats later numbers.1 true_in.1
          (subst (λ (s : RepoState). AreEnded (runs config s (machine_eras config eras))) (leaves_same config state era) ended.1),
    )

-- ---- harvests

-- what comes of two lists comes of each
record IsSplit {A : Type 0} (some xs ys : List A) : Type 0 where
  pub front : List A
  pub back : List A
  pub are : some ≡ front ++ back
  pub first : IsPart front xs
  pub second : IsPart back ys

part_split : {A : Type 0} (some xs ys : List A) → IsPart some (xs ++ ys) → IsSplit some xs ys
part_split some [] ys part = record { front = []; back = some; are = refl; first = refl; second = part }
part_split some (x ∷ xs) ys (inl part) =
    let cut = part_split some xs ys part in record { front = cut.front; back = cut.back; are = cut.are; first = inl cut.first; second = cut.second }
part_split {A} some (x ∷ xs) ys (inr here) =
    let cut = part_split here.0 xs ys here.2 in
    record { front = x ∷ cut.front; back = cut.back; are = here.1 ∙ ap (λ (zs : List A). x ∷ zs) cut.are; first = inr (cut.front, refl, cut.first); second = cut.second }

asking_both : (xs ys : List Visit) → AllByRecursion IsAsking (xs ++ ys) → AllByRecursion IsAsking xs × AllByRecursion IsAsking ys
asking_both [] ys all = (tt, all)
asking_both (x ∷ xs) ys all = let rest = asking_both xs ys all.1 in ((all.0, rest.0), rest.1)

taken_both : (config : RepositoryConfig) (xs ys : List Visit) (us vs : List Transition) → AllZip (IsTaken config) xs us → AllZip (IsTaken config) ys vs → AllZip (IsTaken config) (xs ++ ys) (us ++ vs)
taken_both config [] ys [] vs first second = second
taken_both config [] ys (u ∷ us) vs first second = absurd first
taken_both config (x ∷ xs) ys [] vs first second = absurd first
taken_both config (x ∷ xs) ys (u ∷ us) vs first second = (first.0, taken_both config xs ys us vs first.1 second)

-- requests among the visits of eras are steps of the machine, in their order
taken_within : (config : RepositoryConfig) (state : RepoState) (eras : List VisitedEra) (some : List Visit) → IsConfig config → IsStanding config state → HaveNumbersIn config state eras
    → AreTrueEach config state eras → AllByRecursion IsAsking some → IsPart some (all_visits (visits_within config state eras))
    → AreTaken config some (all_exchanges (runs config state (machine_eras config eras)))
taken_within config state [] some rules standing numbers true_in asks_all part = subst (λ (vs : List Visit). AreTaken config vs []) (sym part) (record { steps = []; each = tt; among = refl })
taken_within config state (era ∷ eras) some rules standing numbers true_in asks_all part =
    let left : RepoState = era_leaves config state era in
    let begun : RepoState = era_begins state era in
    let done : List Call = calls_done era.calls era.answers in
    let all : List Visit = era_visits config state era in
    let whole : List Transition = run config begun (commands_in config done) in
    let others : List Transition = all_exchanges (runs config left (machine_eras config eras)) in
    let cut : IsSplit some all (all_visits (visits_within config left eras)) = part_split some all (all_visits (visits_within config left eras)) part in
    let both = asking_both cut.front cut.back (subst (AllByRecursion IsAsking) cut.are asks_all) in
    let first = taken config begun done cut.front (reachable_standing config begun (standing_ended config era.raise state numbers.0 standing)) both.0
    (part_twice cut.front all (visits config begun done) cut.first true_in.0.among) in
    let rest = taken_within config left eras cut.back rules (standing_leaves config state era rules numbers.0 standing) numbers.1 true_in.1 both.1 cut.second in
    let joined : AreTaken config (cut.front ++ cut.back) (whole ++ others) = record {
      steps = first.steps ++ rest.steps;
      each = taken_both config cut.front cut.back first.steps rest.steps first.each rest.each;
      among = part_append first.steps whole rest.steps others (subst (IsPart first.steps) (steps_run config begun done) first.among) rest.among;
    } in
    let here : AreTaken config some (whole ++ others) = subst (λ (vs : List Visit). AreTaken config vs (whole ++ others)) (sym cut.are) joined in
    subst (λ (s : RepoState). AreTaken config some (whole ++ all_exchanges (runs config s (machine_eras config eras)))) (sym (leaves_same config state era)) here

-- a client's harvest within an era is one of the machine's
record IsMetWithin (config : RepositoryConfig) (eras : List (List Transition)) (prefix : List ℕ) (from : Option (List ℕ)) (harvest : ClientHarvest) : Type 0 where
  pub machine : Harvest
  pub made : IsHarvestWithin config eras (records_since prefix from) machine
  pub told : IsToldAs config prefix harvest machine

met_within : (config : RepositoryConfig) (state : RepoState) (eras : List VisitedEra) (prefix : List ℕ) (from : Option (List ℕ)) (harvest : ClientHarvest) → IsConfig config → AreRepositoryFormats config.formats
    → IsStanding config state → HaveNumbersIn config state eras → AreTrueEach config state eras → IsClientHarvestWithin config (visits_within config state eras) prefix from harvest
    → IsMetWithin config (runs config state (machine_eras config eras)) prefix from harvest
met_within config state [] prefix from harvest rules formats standing numbers true_in own = absurd own
met_within config state (era ∷ eras) prefix from harvest rules formats standing numbers true_in (inl own) =
    let begun : RepoState = era_begins state era in
    let met = harvest_met config begun (calls_done era.calls era.answers) (era_visits config state era) prefix from harvest rules formats
    (reachable_standing config begun (standing_ended config era.raise state numbers.0 standing)) true_in.0.among own in
    record { machine = met.machine; made = inl (met.among, met.made); told = met.told }
met_within config state (era ∷ eras) prefix from harvest rules formats standing numbers true_in (inr own) =
    let left : RepoState = era_leaves config state era in
    let met = met_within config left eras prefix from harvest rules formats (standing_leaves config state era rules numbers.0 standing) numbers.1 true_in.1 own in
    record {
      machine = met.machine;
      made = inr (subst (λ (s : RepoState). IsHarvestWithin config (runs config s (machine_eras config eras)) (records_since prefix from) met.machine) (sym (leaves_same config state era)) met.made);
      told = met.told;
    }

record AreMetWithin (config : RepositoryConfig) (eras : List (List Transition)) (prefix : List ℕ) (from : Option (List ℕ)) (harvests : List ClientHarvest) (steps : List Transition) : Type 0 where
  pub machines : List Harvest
  pub firsts : map (λ (machine : Harvest). machine.first) machines ≡ steps
  pub made : AreHarvestsWithin config eras prefix from machines
  pub told : AllZip (IsToldAs config prefix) harvests machines

all_met_within : (config : RepositoryConfig) (state : RepoState) (eras : List VisitedEra) (prefix : List ℕ) (from : Option (List ℕ)) (harvests : List ClientHarvest) (steps : List Transition) → IsConfig config
    → AreRepositoryFormats config.formats → IsStanding config state → HaveNumbersIn config state eras → AreTrueEach config state eras → AllZip (IsTaken config) (map first_in harvests) steps
    → AreClientHarvestsWithin config (visits_within config state eras) prefix from harvests → AreMetWithin config (runs config state (machine_eras config eras)) prefix from harvests steps
all_met_within config state eras prefix from [] [] rules formats standing numbers true_in each own = record { machines = []; firsts = refl; made = tt; told = tt }
all_met_within config state eras prefix from [] (step ∷ steps) rules formats standing numbers true_in each own = absurd each
all_met_within config state eras prefix from (harvest ∷ harvests) [] rules formats standing numbers true_in each own = absurd each
all_met_within config state eras prefix from (harvest ∷ harvests) (step ∷ steps) rules formats standing numbers true_in each own =
    let whole : List (List Transition) = runs config state (machine_eras config eras) in
    let one = met_within config state eras prefix from harvest rules formats standing numbers true_in own.0 in
    let later = all_met_within config state eras prefix (Some (datestamp_in config.granularity harvest.first.seen.date)) harvests steps rules formats standing numbers true_in each.1 own.1 in
    record {
      machines = one.machine ∷ later.machines;
      firsts =
          ap (λ (e : Transition). e ∷ map (λ (machine : Harvest). machine.first) later.machines) (taken_once config harvest.first.visit one.machine.first step one.told.taken each.0)
          ∙ ap (λ (es : List Transition). step ∷ es) later.firsts;
      made = (one.made, subst (λ (text : List ℕ). AreHarvestsWithin config whole prefix (Some text) later.machines) (sym one.told.date) later.made);
      told = (one.told, later.told);
    }

within_asking : (config : RepositoryConfig) (eras : List (List Visit)) (prefix : List ℕ) (from : Option (List ℕ)) (harvest : ClientHarvest) → IsClientHarvestWithin config eras prefix from harvest
    → IsAsking (first_in harvest)
within_asking config [] prefix from harvest own = absurd own
within_asking config (all ∷ eras) prefix from harvest (inl own) = record { arguments = own.asked.arguments; asked = own.asked.asked }
within_asking config (all ∷ eras) prefix from harvest (inr own) = within_asking config eras prefix from harvest own

all_asking : (config : RepositoryConfig) (eras : List (List Visit)) (prefix : List ℕ) (from : Option (List ℕ)) (harvests : List ClientHarvest) → AreClientHarvestsWithin config eras prefix from harvests
    → AllByRecursion IsAsking (map first_in harvests)
all_asking config eras prefix from [] own = tt
all_asking config eras prefix from (harvest ∷ harvests) own = (
  within_asking config eras prefix from harvest own.0,
  all_asking config eras prefix (Some (datestamp_in config.granularity harvest.first.seen.date)) harvests own.1,
)

client_copied_over : (config : RepositoryConfig) (eras : List VisitedEra) (prefix : List ℕ) (first : ClientHarvest) (others : List ClientHarvest) → IsConfig config → AreRepositoryFormats config.formats
    → config.deleted ≡ Persistent → HaveNumbersIn config (empty_state config) eras → AreTrueEach config (empty_state config) eras
    → AreSuccessiveByClientWithin config (visits_within config (empty_state config) eras) prefix first others
    → IsWholeClientCopy config prefix (found_by (last_client_harvest first others).first.visit) (client_copy (first ∷ others))
client_copied_over config eras prefix first others rules formats keeps numbers true_in successive =
    let state : RepoState = empty_state config in
    let standing = standing_empty config rules in
    let all : List (List Visit) = visits_within config state eras in
    let whole : List (List Transition) = runs config state (machine_eras config eras) in
    let steps = taken_within config state eras (map first_in (first ∷ others)) rules standing numbers true_in (all_asking config all prefix None (first ∷ others) successive.harvests) successive.begun in
    let met = all_met_within config state eras prefix None (first ∷ others) steps.steps rules formats standing numbers true_in steps.each successive.harvests in
    by met.machines (subst (λ (es : List Transition). IsPart es (all_exchanges whole)) (sym met.firsts) steps.among) met.made met.told
  where
    by : (machines : List Harvest) → IsPart (map (λ (machine : Harvest). machine.first) machines) (all_exchanges (runs config (empty_state config) (machine_eras config eras)))
        → AreHarvestsWithin config (runs config (empty_state config) (machine_eras config eras)) prefix None machines → AllZip (IsToldAs config prefix) (first ∷ others) machines
        → IsWholeClientCopy config prefix (found_by (last_client_harvest first others).first.visit) (client_copy (first ∷ others))
    by [] among made told = absurd told
    by (machine ∷ machines) among made told =
        copied_told config prefix first others machine machines told.0 told.1
        (harvests_within config (empty_state config) (machine_eras config eras) prefix machine machines rules keeps (standing_empty config rules)
        (machine_numbers config (empty_state config) eras numbers) (record { begun = among; harvests = made }))

-- ---- a repository over eras

pub followed_over : (config : RepositoryConfig) (eras : List VisitedEra) → IsConfig config → AreRepositoryFormats config.formats → HaveNumbersIn config (empty_state config) eras
    → AreMetEach config (empty_state config) eras → FollowListsOver config eras
followed_over config eras rules formats numbers met =
    let state : RepoState = empty_state config in
    let standing = standing_empty config rules in
    record {
      each = followed_each config state eras rules formats standing numbers met;
      refused = ended_over config eras rules numbers met;
      printed = tokens_ended config state eras rules formats standing numbers (true_each config state eras met)
          (era_tokens_refused config (machine_eras config eras) state rules standing.sound (machine_numbers config state eras numbers));
      rising = rising_over config eras numbers met;
    }

pub harvested_over : (config : RepositoryConfig) (eras : List VisitedEra) → IsConfig config → AreRepositoryFormats config.formats → HaveNumbersIn config (empty_state config) eras
    → AreMetEach config (empty_state config) eras → MissNothingOver config eras
harvested_over config eras rules formats numbers met = record {
  copied = copied_over config eras rules numbers met;
  seen = λ prefix first others keeps successive. client_copied_over config eras prefix first others rules formats keeps numbers (true_each config (empty_state config) eras met) successive;
}

pub client_harvests_over : (eras : List VisitedEra) (entry : NamedConfig) (left : RepoState) (prefix : List ℕ) (first : ClientHarvest) (others : List ClientHarvest) → HasRules entry
    → entry.config.deleted ≡ Persistent → AreTrueOver entry.config eras left → HaveNumbersIn entry.config (empty_state entry.config) eras
    → AreSuccessiveByClientWithin entry.config (visits_within entry.config (empty_state entry.config) eras) prefix first others
    → IsWholeClientCopy entry.config prefix (found_by (last_client_harvest first others).first.visit) (client_copy (first ∷ others))
client_harvests_over eras entry left prefix first others has keeps are numbers successive =
    client_copied_over entry.config eras prefix first others has.rules has.formats keeps numbers are.each successive
