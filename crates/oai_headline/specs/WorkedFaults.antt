-- A worked run of a repository in which a page and a deposit fail. It shows that what the theorem of a host says about
-- failures is not vacuous. OAI-PMH 2.0, sections 3.1.2.2 and 3.5; deposits are this repository's own.
use Rattle.std.specs.Prelude.{◌≡◌, ◌++◌, List, [], ◌∷◌, length, filter, is_some, codes, Option, None, Some}
use Rattle.std.specs.List.{AllByRecursion}
use Rattle.oai_item.specs.declared.faults.Fault.TheVariants.{Device, NoMemory}
use Rattle.oai_settings.specs.Config.{RepositoryConfig}
use Rattle.oai_repo.specs.State.{RepoState, empty_state}
use Rattle.oai_laws.specs.Worked.{all_records, worked_config}
use Rattle.oai_http.specs.Answers.{failed}
use Rattle.oai_http.specs.declared.exchanges.Answer.{Answer}
use Rattle.oai_http.specs.declared.exchanges.Call.{Call}
use Rattle.oai_host.specs.Alone.{exchanged_alone, own_calls}
use Rattle.oai_headline.specs.Chains.{IsFollowing}
use Rattle.oai_headline.specs.Throughout.{IsTrueVisit, left_by, calls_done, calls_done_by, visits_given, whole_visits}
use Rattle.oai_headline.specs.Visits.{Visit}
use Rattle.oai_headline.specs.Worked.{delete_line, deposit_line, get, post, worked_calls}

-- the answer to an exchange: the given one if it fails, otherwise the machine's
abbrev pub answer_to : RepositoryConfig → RepoState → Call → Option Answer → Answer
answer_to config state call None = (exchanged_alone config state call).0
answer_to config state call (Some answer) = answer

-- exchanges, one after the other, of which some fail
abbrev pub answers_with : RepositoryConfig → RepoState → List Call → List (Option Answer) → List Answer
answers_with config state [] failures = []
answers_with config state (call ∷ calls) [] = []
answers_with config state (call ∷ calls) (failure ∷ failures) =
    let answer = answer_to config state call failure in
    answer ∷ answers_with config (left_by config state (calls_done_by call answer)) calls failures

-- the exchanges of the first repository of the worked run, with two failures among them. Of a deposit of two lines the
-- first one is done, and then a device fails; and the second page of the list runs out of memory, and is requested
-- again a second later
abbrev pub failing_calls : List Call
failing_calls =
    post 0 (codes "/deposit/a") (deposit_line (codes "oai:a:1") ++ deposit_line (codes "oai:a:2"))
    ∷ post 0 (codes "/deposit/a") (deposit_line (codes "oai:a:3"))
    ∷ post 0 (codes "/deposit/a") (deposit_line (codes "oai:a:4") ++ deposit_line (codes "oai:a:5"))
    ∷ get 0 (codes "/oai/a?verb=ListIdentifiers&metadataPrefix=oai_dc")
    ∷ get 60 (codes "/oai/a?verb=ListRecords&metadataPrefix=oai_dc")
    ∷ get 60 (codes "/oai/a?verb=ListIdentifiers&resumptionToken=1.2")
    ∷ post 61 (codes "/deposit/a") (deposit_line (codes "oai:a:6") ++ deposit_line (codes "oai:a:7"))
    ∷ post 62 (codes "/deposit/a") (delete_line (codes "oai:a:4"))
    ∷ get 30 (codes "/oai/a?verb=ListIdentifiers&metadataPrefix=oai_dc")
    ∷ get 63 (codes "/oai/a?verb=ListIdentifiers&resumptionToken=2.2")
    ∷ get 63 (codes "/oai/a?verb=ListRecords&resumptionToken=2.2")
    ∷ get 64 (codes "/oai/a?verb=ListRecords&resumptionToken=2.2")
    ∷ post 70 (codes "/deposit/a") (deposit_line (codes "oai:a:5"))
    ∷ get 123 (codes "/oai/a?verb=ListRecords&resumptionToken=2.4")
    ∷ []

abbrev pub failures : List (Option Answer)
failures =
    None
    ∷ None
    ∷ None
    ∷ None
    ∷ None
    ∷ None
    ∷ Some (failed Device (Some 1))
    ∷ None
    ∷ None
    ∷ None
    ∷ Some (failed NoMemory None)
    ∷ None
    ∷ None
    ∷ None
    ∷ []

abbrev pub failing_answers : List Answer
failing_answers = answers_with worked_config (empty_state worked_config) failing_calls failures

abbrev pub failing_visits : List Visit
failing_visits = visits_given worked_config (empty_state worked_config) failing_calls failing_answers

-- each exchange is given what the theorem says; two have failed; what was performed is what the worked run without
-- failures performs; and a list is followed over three pages by the visits that did not fail
pub record IsWorkedWithFailures (first second last : Visit) : Type 0 where
  pub given : AllByRecursion (IsTrueVisit worked_config) failing_visits
  pub two : length (filter (λ (failure : Option Answer). is_some failure) failures) ≡ 2
  pub same : calls_done failing_calls failing_answers ≡ own_calls (codes "a") worked_calls
  pub following : IsFollowing worked_config (whole_visits failing_visits) all_records first (second ∷ last ∷ [])
