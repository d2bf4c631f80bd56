-- A token of the worked run of harvests comes again in an era after it, and is refused.
use Rattle.std.proofs.Common.{◌≡◌, ◌∙◌, List, [], ◌∷◌, codes, None, Some, refl, sym, ap, subst}
use Rattle.std.specs.Prelude.{int_lt}
use Rattle.std.specs.List.{AllByRecursion, AllZip, flat_map}
use Rattle.oai_names.specs.declared.list_verbs.ListVerb.TheVariants as list
use Rattle.oai_time.specs.declared.granularity.Granularity.{Granularity}
use Rattle.oai_time.specs.declared.granularity.Granularity.TheVariants.{Second}
use Rattle.oai_args.specs.Asks.{asks}
use Rattle.oai_args.specs.declared.requests.Ask.TheVariants as ask
use Rattle.oai_answers.specs.Answers.{fails}
use Rattle.oai_answers.specs.declared.errors.ErrorCode.TheVariants.{BadResumptionToken}
use Rattle.oai_repo.specs.Machine.{Outcome, accepted, documented, later, outcome_output, refused_with}
use Rattle.oai_repo.specs.State.{RepoState, empty_state}
use Rattle.oai_laws.specs.Following.{answer_in}
use Rattle.oai_laws.specs.Runs.{IsPart, Transition, run}
use Rattle.oai_laws.specs.WorkedHarvests.{archive_b, harvest_run, prefix}
use Rattle.oai_laws.proofs.WorkedEraLemmas.{e0, later_run, page_among, refused, refused_among, refused_told}
use Rattle.oai_laws.proofs.WorkedHarvestLemmas.{configured, offer_1, offered_1, page_1, shown_page_1, told_1}
use Rattle.oai_http.specs.declared.exchanges.Answer.{Answer}
use Rattle.oai_http.specs.declared.exchanges.Call.{Call}
use Rattle.oai_host.specs.Alone.{own_calls}
use Rattle.oai_host.specs.Answers.{answer_of}
use Rattle.oai_headline.specs.Chains.{IsStepOf}
use Rattle.oai_headline.specs.Eras.{IsTokenRefused}
use Rattle.oai_headline.specs.Visits.{Visit, steps_of, visits}
use Rattle.oai_headline.specs.Worked.{IsTokenEnded, worked_calls}
use Rattle.oai_headline.proofs.CarriedLemmas.{steps_run}
use Rattle.oai_headline.proofs.FoundLemmas.{AreFound, found}
use Rattle.oai_headline.proofs.MetLemmas.{IsReached, all_reached, its_request, part_reached, printed_at}
use Rattle.oai_headline.proofs.TakenLemmas.{reachable_empty}
use Rattle.oai_headline.proofs.WorkedCalls.{carried_b, carried_later, later_calls}
use Rattle.oai_headline.proofs.WorkedLemmas.{formats_kept}

abbrev pub own_b : List Call
own_b = own_calls (codes "b") worked_calls

-- the visits before the checkpoint, and after it
abbrev pub earlier_visits : List Visit
earlier_visits = visits archive_b (empty_state archive_b) own_b

abbrev pub later_visits : List Visit
later_visits = visits archive_b e0 later_calls

pub earlier_steps : flat_map (steps_of archive_b) earlier_visits ≡ harvest_run
earlier_steps = steps_run archive_b (empty_state archive_b) own_b ∙ ap (run archive_b (empty_state archive_b)) carried_b

pub later_steps : flat_map (steps_of archive_b) later_visits ≡ later_run
later_steps = steps_run archive_b e0 later_calls ∙ ap (run archive_b e0) carried_later

page_found : AreFound archive_b (page_1 ∷ []) earlier_visits
page_found =
    found archive_b (empty_state archive_b) own_b (page_1 ∷ []) ((asks (ask.List list.Records prefix None None None), refl), tt) (subst (IsPart (page_1 ∷ [])) (sym earlier_steps) page_among)

refused_found : AreFound archive_b (refused ∷ []) later_visits
refused_found =
    found archive_b e0 later_calls (refused ∷ []) ((asks (ask.Resume list.Records (codes "1.2")), refl), tt) (subst (IsPart (refused ∷ [])) (sym later_steps) refused_among)

refused_outcome : (g : Granularity) (answer : Answer) (outcome : Outcome) → answer ≡ answer_of (outcome_output g outcome) → answer_in outcome ≡ Some (fails BadResumptionToken) → IsTokenRefused answer
unfolding outcome_output
refused_outcome g answer (documented its) is told = let same : its.answer ≡ fails BadResumptionToken = cc in record { its = its; written = is; told = same }
refused_outcome g answer (later seconds) is told = cc
refused_outcome g answer (accepted stamp) is told = cc
refused_outcome g answer (refused_with cause) is told = cc

abbrev IsOne : Type 0
IsOne = (before : Visit) × (after : Visit) × IsTokenEnded archive_b earlier_visits later_visits before after

ended_by : (before after : Visit) → IsStepOf archive_b before page_1 → IsPart (before ∷ []) earlier_visits → IsStepOf archive_b after refused → IsPart (after ∷ []) later_visits → IsOne
ended_by before after prints printing comes coming =
    let reached : AllByRecursion (IsReached archive_b) (before ∷ []) =
    part_reached archive_b (before ∷ []) earlier_visits printing (all_reached archive_b (empty_state archive_b) own_b (reachable_empty archive_b configured)) in (
      before,
      after,
      record {
        printing = printing;
        coming = coming;
        offer = offer_1;
        printed = printed_at archive_b before page_1 shown_page_1 offer_1 configured formats_kept reached.0 prints told_1 offered_1;
        asked = its_request archive_b after refused (asks (ask.Resume list.Records (codes "1.2"))) comes refl;
        unexpired = ap (λ (state : RepoState). int_lt state.clock offer_1.expires) (sym comes.found);
        refused = refused_outcome Second after.answer refused.outcome comes.written refused_told;
      },
    )

with_first : (before : Visit) (some : List Visit) → IsStepOf archive_b before page_1 → IsPart (before ∷ []) earlier_visits → AllZip (IsStepOf archive_b) some (refused ∷ []) → IsPart some later_visits → IsOne
with_first before [] prints printing each part = absurd each
with_first before (v ∷ w ∷ more) prints printing each part = absurd each.1
with_first before (v ∷ []) prints printing each part = ended_by before v prints printing each.0 part

with_both : (some few : List Visit) → AllZip (IsStepOf archive_b) some (page_1 ∷ []) → IsPart some earlier_visits → AllZip (IsStepOf archive_b) few (refused ∷ []) → IsPart few later_visits → IsOne
with_both [] few each part others coming = absurd each
with_both (v ∷ w ∷ more) few each part others coming = absurd each.1
with_both (v ∷ []) few each part others coming = with_first v few each.0 part others coming

pub token_ended : (before : Visit) × (after : Visit) × IsTokenEnded archive_b earlier_visits later_visits before after
token_ended = with_both page_found.some refused_found.some page_found.each page_found.among refused_found.each refused_found.among
