-- What is answered to requests of a repository is a document of its machine, and so XML.
use Rattle.std.proofs.Common.{◌≡◌, ◌≢◌, ◌∙◌, ◌≤◌, ℕ, ℤ, true, List, [], ◌∷◌, map, Option, None, Some, refl, sym, ap, subst}
use Rattle.std.specs.List.{AllByRecursion}
use Rattle.std.proofs.lemmas.List.Folds.{list_all-append}
use Rattle.oai_lists.specs.declared.lists.TheConstants.{LAST_NUMBER}
use Rattle.oai_item.specs.declared.faults.Fault.{Fault}
use Rattle.oai_item.specs.declared.faults.Fault.TheVariants.{Damaged, Device, NoMemory, TooManyPages}
use Rattle.oai_deposit.specs.Lines.{line_of}
use Rattle.oai_args.specs.Pairs.{decoded_pairs}
use Rattle.oai_args.specs.Requests.{request_of}
use Rattle.oai_answers.specs.Answers.{Attributes, Document}
use Rattle.oai_answers.specs.Documents.{document}
use Rattle.oai_settings.specs.Config.{RepositoryConfig}
use Rattle.oai_repo.specs.Answers.{arguments_of_request, document_at}
use Rattle.oai_repo.specs.Listing.{Response, request_response, retry_after, with_answer}
use Rattle.oai_repo.specs.Machine.{act, line, outcome_of, outcome_output, requesting}
use Rattle.oai_repo.specs.Saved.{ended}
use Rattle.oai_repo.specs.State.{RepoState, empty_state, moved}
use Rattle.oai_laws.specs.Effects.{IsSound}
use Rattle.oai_laws.specs.Eras.{left_behind}
use Rattle.oai_laws.specs.Runs.{Timed, performed}
use Rattle.oai_laws.proofs.EffectLemmas.{sound_act, sound_empty, sound_moved}
use Rattle.oai_laws.proofs.EndedLemmas.{sound_ended}
use Rattle.oai_documents.specs.Answering.{have_namespaces}
use Rattle.oai_documents.specs.DocumentTrees.{document_tree}
use Rattle.oai_documents.specs.Texts.{are_legal_commands, is_legal_command, is_legal_config}
use Rattle.oai_documents.specs.WellFormed.{is_foreign, may_be_default}
use Rattle.oai_documents.proofs.Answered.{IsGivenBy, IsGivenDocument, Rules, given_act, given_of_schema, given_whole, rules_of}
use Rattle.oai_documents.proofs.LegalAnswers.{AreLegal, IsLegalDocument, IsLegalOutcome, is_read, legal_act, legal_behind, legal_empty, legal_moved}
use Rattle.oai_documents.proofs.LegalCommands.{line_command, query_command}
use Rattle.oai_documents.proofs.Records.{document_written}
use Rattle.oai_documents.proofs.Tags.{both}
use Rattle.oai_config.specs.Configs.{NamedConfig}
use Rattle.oai_http.specs.Answers.{failed}
use Rattle.oai_http.specs.declared.exchanges.Answer.{Answer}
use Rattle.oai_http.specs.declared.exchanges.Call.{Call}
use Rattle.oai_http.specs.declared.statuses.Status.TheVariants as status
use Rattle.oai_host.specs.Alone.{done_alone, own_answers, own_calls}
use Rattle.oai_host.specs.Answers.{answer_of}
use Rattle.oai_host.specs.Tasks.{Task, asking, depositing, refusing, task_of}
use Rattle.oai_headline.specs.Eras.{AreTrueEach, AreTrueOver, HaveNumbersIn, VisitedEra, era_begins, era_leaves}
use Rattle.oai_startup.specs.Rules.{HasRules}
use Rattle.oai_headline.specs.Throughout.{AreTrueFrom, IsFailure, IsTrueBy, IsTrueVisit, calls_done, calls_done_by, left_by, own_given, visits_given}
use Rattle.oai_headline.specs.Visits.{Visit, commands_by, commands_in, commands_of, timed_input}
use Rattle.oai_headline.specs.XmlAnswers.{AreAnsweredInXml, HasLegalTexts, IsAnsweredInXml, IsXmlDocument}
use Rattle.oai_headline.proofs.CarriedLemmas.{calls_behind}

-- ---- what is asked of the configuration

record IsFit (config : RepositoryConfig) : Type 0 where
  pub rules : Rules may_be_default config
  pub foreign : have_namespaces is_foreign config ≡ true → Rules is_foreign config
  pub texts : is_legal_config config ≡ true

is_fit : (entry : NamedConfig) → HasRules entry → HasLegalTexts entry → have_namespaces may_be_default entry.config ≡ true → IsFit entry.config
is_fit entry rules texts all = record {
  rules = rules_of may_be_default entry.config rules.rules rules.formats all;
  foreign = λ none. rules_of is_foreign entry.config rules.rules rules.formats none;
  texts = texts;
}

-- ---- what calls carry, and leave

lines_legal : (config : RepositoryConfig) (moment : ℤ) (lines : List (List ℕ)) → are_legal_commands (map (λ (text : List ℕ). timed_input config.granularity moment (line (line_of config.forms text))) lines) ≡ true
lines_legal config moment [] = refl
lines_legal config moment (text ∷ lines) = both (line_command config.granularity config.forms text) (lines_legal config moment lines)

task_legal : (config : RepositoryConfig) (moment : ℤ) (task : Task) → are_legal_commands (commands_of config moment task) ≡ true
task_legal config moment (refusing status) = refl
task_legal config moment (asking arguments) = both (query_command config.granularity arguments) refl
task_legal config moment (depositing lines) = lines_legal config moment lines

calls_legal : (config : RepositoryConfig) (calls : List Call) → are_legal_commands (commands_in config calls) ≡ true
calls_legal config [] = refl
calls_legal config (call ∷ calls) =
    list_all-append (λ (timed : Timed). is_legal_command timed.command) (commands_by config call) (commands_in config calls) ∙ both (task_legal config call.moment (task_of call)) (calls_legal config calls)

record Holds (config : RepositoryConfig) (state : RepoState) : Type 0 where
  pub sound : IsSound config state
  pub texts : AreLegal state

sound_behind : (config : RepositoryConfig) (state : RepoState) (commands : List Timed) → IsSound config state → IsSound config (left_behind config state commands)
sound_behind config state [] sound = sound
sound_behind config state (timed ∷ commands) sound =
    sound_behind config (performed config state timed).left commands (sound_act config (moved timed.moment state) timed.command (sound_moved config timed.moment state sound))

holds_empty : (config : RepositoryConfig) → Holds config (empty_state config)
holds_empty config = record { sound = sound_empty config; texts = legal_empty config }

holds_left : (config : RepositoryConfig) (state : RepoState) (calls : List Call) → IsFit config → Holds config state → Holds config (left_by config state calls)
holds_left config state calls fit held =
    subst (Holds config) (calls_behind config state calls)
    (record {
      sound = sound_behind config state (commands_in config calls) held.sound;
      texts = legal_behind config state (commands_in config calls) fit.texts (calls_legal config calls) held.texts;
    })

holds_ended : (config : RepositoryConfig) (raise : ℕ) (state : RepoState) → (ended raise state).open_lists.next ≤ LAST_NUMBER → Holds config state → Holds config (ended raise state)
holds_ended config raise state few held =
    record { sound = sound_ended config raise state few held.sound; texts = record { items = held.texts.items; sets = held.texts.sets; lists = refl } }

-- ---- an answer

in_xml : (config : RepositoryConfig) (d : Document) → IsGivenDocument may_be_default d → (have_namespaces is_foreign config ≡ true → IsGivenDocument is_foreign d) → IsLegalDocument d → IsXmlDocument config (document d)
in_xml config d given other texts =
    let its = is_read d given texts in
    record { document = d; tree = document_tree d; shows = refl; written = document_written d given.regular; whole = given_whole d given; text = its.0; read = its.1; schema = λ none about. given_of_schema d (other none) about }

not_unavailable : status.ServiceUnavailable ≢ status.Ok
not_unavailable same = cc

in_xml_said : (config : RepositoryConfig) (clock : ℤ) (asked : Attributes) (said : Response) → IsGivenBy may_be_default (outcome_of config clock asked said)
    → (have_namespaces is_foreign config ≡ true → IsGivenBy is_foreign (outcome_of config clock asked said)) → IsLegalOutcome (outcome_of config clock asked said)
    → (answer_of (outcome_output config.granularity (outcome_of config clock asked said))).status ≡ status.Ok
    → IsXmlDocument config (answer_of (outcome_output config.granularity (outcome_of config clock asked said))).body
unfolding outcome_output
in_xml_said config clock asked (with_answer answer) given other texts ok = in_xml config (document_at config clock asked answer) given other texts
in_xml_said config clock asked (retry_after seconds) given other texts ok = absurd (not_unavailable ok)

in_xml_done : (config : RepositoryConfig) (state : RepoState) (moment : ℤ) (arguments : List ℕ) → IsFit config → Holds config state → (done_alone config state moment (asking arguments)).0.status ≡ status.Ok
    → IsXmlDocument config (done_alone config state moment (asking arguments)).0.body
unfolding act
in_xml_done config state moment arguments fit held ok =
    let found : RepoState = moved moment state in
    let request = request_of config.granularity (decoded_pairs arguments) in
    let sound = sound_moved config moment state held.sound in
    in_xml_said config found.clock (arguments_of_request request) (request_response config found request).0
    (given_act may_be_default config found (requesting request) fit.rules sound)
    (λ none. given_act is_foreign config found (requesting request) (fit.foreign none) sound)
    (legal_act config found (requesting request) fit.texts (query_command config.granularity arguments) (legal_moved moment state held.texts)).0 ok

never_ok : (fault : Fault) → (failed fault None).status ≢ status.Ok
never_ok NoMemory same = cc
never_ok TooManyPages same = cc
never_ok Device same = cc
never_ok Damaged same = cc

-- ---- a visit

in_xml_by : (config : RepositoryConfig) (visit : Visit) (fault : Option Fault) → IsFit config → Holds config visit.before → IsTrueBy config visit fault → IsAnsweredInXml config visit
in_xml_by config visit None fit held so = λ arguments asked ok.
    let written : visit.answer ≡ (done_alone config visit.before visit.call.moment (asking arguments)).0 = so ∙ ap (λ (task : Task). (done_alone config visit.before visit.call.moment task).0) asked in
    subst (λ (answer : Answer). IsXmlDocument config answer.body) (sym written)
    (in_xml_done config visit.before visit.call.moment arguments fit held (ap (λ (answer : Answer). answer.status) (sym written) ∙ ok))
in_xml_by config visit (Some fault) fit held so = λ arguments asked ok.
    let told : visit.answer ≡ failed fault None = subst (λ (task : Task). IsFailure fault task visit.answer) asked so in
    absurd (never_ok fault (ap (λ (answer : Answer). answer.status) (sym told) ∙ ok))

-- ---- visits, one after the other

in_xml_each : (config : RepositoryConfig) (state : RepoState) (calls : List Call) (answers : List Answer) → IsFit config → Holds config state
    → AllByRecursion (IsTrueVisit config) (visits_given config state calls answers) → AllByRecursion (IsAnsweredInXml config) (visits_given config state calls answers)
in_xml_each config state [] answers fit held given = tt
in_xml_each config state (call ∷ calls) [] fit held given = tt
in_xml_each config state (call ∷ calls) (answer ∷ answers) fit held given = (
  in_xml_by config (record { call = call; before = state; answer = answer }) answer.fault fit held given.0,
  in_xml_each config (left_by config state (calls_done_by call answer)) calls answers fit (holds_left config state (calls_done_by call answer) fit held) given.1,
)

in_xml_eras : (config : RepositoryConfig) (state : RepoState) (eras : List VisitedEra) → IsFit config → Holds config state → HaveNumbersIn config state eras → AreTrueEach config state eras
    → AreAnsweredInXml config state eras
in_xml_eras config state [] fit held numbers given = tt
in_xml_eras config state (era ∷ eras) fit held numbers given =
    let begun = holds_ended config era.raise state numbers.0 held in (
      in_xml_each config (era_begins state era) era.calls era.answers fit begun given.0.given,
      in_xml_eras config (era_leaves config state era) eras fit (holds_left config (era_begins state era) (calls_done era.calls era.answers) fit begun) numbers.1 given.1,
    )

-- ---- a repository from its beginning on

pub answered_in_xml : (calls : List Call) (answers : List Answer) (entry : NamedConfig) (left : RepoState) → HasRules entry → HasLegalTexts entry
    → have_namespaces may_be_default entry.config ≡ true
    → AreTrueFrom entry.config (empty_state entry.config) (own_calls entry.name calls) (own_answers entry.name calls answers) left
    → AllByRecursion (IsAnsweredInXml entry.config) (own_given entry calls answers)
answered_in_xml calls answers entry left rules texts all so =
    in_xml_each entry.config (empty_state entry.config) (own_calls entry.name calls) (own_answers entry.name calls answers) (is_fit entry rules texts all) (holds_empty entry.config) so.given

pub answered_in_xml_over : (eras : List VisitedEra) (entry : NamedConfig) (left : RepoState) → HasRules entry → HasLegalTexts entry
    → have_namespaces may_be_default entry.config ≡ true → AreTrueOver entry.config eras left → HaveNumbersIn entry.config (empty_state entry.config) eras
    → AreAnsweredInXml entry.config (empty_state entry.config) eras
answered_in_xml_over eras entry left rules texts all so numbers =
    in_xml_eras entry.config (empty_state entry.config) eras (is_fit entry rules texts all) (holds_empty entry.config) numbers so.each
