-- The theorem of a host, from the runs of its repositories.
use Rattle.std.proofs.Common.{◌≡◌, ◌∙◌, ℕ, suc, Bool, false, IsTrue, List, [], ◌∷◌, ◌++◌, length, arith, map, Option, None, is_none, refl, sym, ap, subst}
use Rattle.std.specs.List.{All, AllByRecursion, AllZip, flat_map}
use Rattle.std.proofs.lemmas.Bool.{cond-false}
use Rattle.oai_item.specs.declared.faults.Fault.{Fault}
use Rattle.oai_settings.specs.Config.{RepositoryConfig}
use Rattle.oai_repo.specs.State.{RepoState, empty_state}
use Rattle.oai_config.specs.Configs.{HostConfig, NamedConfig}
use Rattle.oai_laws.proofs.EndedLemmas.{standing_empty}
use Rattle.oai_http.specs.declared.exchanges.Answer.{Answer}
use Rattle.oai_http.specs.declared.exchanges.Call.{Call}
use Rattle.oai_host.specs.Alone.{exchanged_alone, own_answers, own_calls}
use Rattle.oai_host.specs.Hosts.{AreAnswered, AreExchanged, HostState, IsOwnRun, Repository, begun, store_of}
use Rattle.oai_host.specs.Performed.{StoreState}
use Rattle.oai_host.specs.Tasks.{asking, task_of}
use Rattle.oai_host.proofs.RunLemmas.{all_answered, alone_from}
use Rattle.oai_startup.specs.Begun.{IsBegunOn}
use Rattle.oai_startup.specs.Rules.{HasRules, HaveRules}
use Rattle.oai_headline.specs.Headline.{IsMadeOf}
use Rattle.oai_headline.specs.Throughout.{IsTrueVisit, IsTrueBy, IsThroughout, IsThroughoutAt, left_by, own_given, own_calls_done, calls_done, calls_done_in, calls_done_by, visits_given, whole_visits}
use Rattle.oai_headline.specs.Visits.{Visit, commands_in, steps_of, visits}
use Rattle.oai_headline.proofs.GivenLemmas.{all_met}
use Rattle.oai_headline.proofs.EraLemmas.{throughout_from}

-- ---- a repository

at_one : (calls : List Call) (answers : List Answer) (entry : NamedConfig) (old new : StoreState) (after : Repository) → HasRules entry → IsTrue old.honest → IsOwnRun calls answers old new (begun entry) after
    → IsThroughoutAt calls answers entry after.state
at_one calls answers entry old new after rules honest own =
    let config : RepositoryConfig = entry.config in
    let state : RepoState = empty_state config in
    let own_cs : List Call = own_calls entry.name calls in
    let own_as : List Answer = own_answers entry.name calls answers in
    let met = all_met config own_cs own_as state old after.state new honest own.run in
    throughout_from config state own_cs own_as after.state rules.rules rules.formats (standing_empty config rules.rules)
    (record { given = met.given; leaves = met.left; alone = λ none. alone_from config own_cs own_as state old after.state new honest own.run none })

-- what is true of each is true of the first, and of each behind it
each_rules : (entries : List NamedConfig) → All HasRules entries → AllByRecursion HasRules entries
each_rules [] h = tt
each_rules (entry ∷ entries) h =
    (h 0 entry (omega arith), each_rules entries (λ k d within. h (suc k) d (omega (arith, within))))

at_each : (calls : List Call) (answers : List Answer) (old new : StoreState) (entries : List NamedConfig) (after : List Repository) → IsTrue old.honest → AllByRecursion HasRules entries
    → AllZip (IsOwnRun calls answers old new) (map begun entries) after
    → AllZip (λ (entry : NamedConfig) (repository : Repository). IsThroughoutAt calls answers entry repository.state) entries after
at_each calls answers old new [] [] honest rules runs = tt
at_each calls answers old new [] (y ∷ after) honest rules runs = absurd runs
at_each calls answers old new (entry ∷ entries) [] honest rules runs = absurd runs
at_each calls answers old new (entry ∷ entries) (y ∷ after) honest rules runs =
    (at_one calls answers entry old new y rules.0 honest runs.0, at_each calls answers old new entries after honest rules.1 runs.1)

-- ---- the host

pub throughout_runs : (config : HostConfig) (honest : Bool) (first last : HostState) (calls : List Call) (answers : List Answer) → HaveRules config → IsMadeOf config honest first → IsTrue honest
    → AreAnswered calls answers first last → IsThroughout config calls answers last.repositories
throughout_runs config honest first last calls answers rules made so answered =
    at_each calls answers (store_of first) (store_of last) config.repositories last.repositories (subst (λ (b : Bool). IsTrue b) (sym made.honesty) so) (each_rules config.repositories rules)
    (subst (λ (rs : List Repository). AllZip (IsOwnRun calls answers (store_of first) (store_of last)) rs last.repositories) made.begun answered.each)

pub throughout : (config : HostConfig) (honest : Bool) (first last : HostState) (calls : List Call) (answers : List Answer) → HaveRules config → IsMadeOf config honest first → IsTrue honest
    → AreExchanged calls answers first last → IsThroughout config calls answers last.repositories
throughout config honest first last calls answers rules made so run =
    throughout_runs config honest first last calls answers rules made so (all_answered calls answers first last run)

-- over the pages of a device
pub throughout_on : (config : HostConfig) (honest : Bool) (failures : ℕ) (first last : HostState) (calls : List Call) (answers : List Answer) → HaveRules config
    → IsBegunOn config honest failures first → IsTrue honest → AreExchanged calls answers first last → IsThroughout config calls answers last.repositories
throughout_on config honest failures first last calls answers rules made so run =
    throughout config honest first last calls answers rules (record { begun = made.begun; honesty = made.honesty }) so run

-- ---- one place

pub given_there : (config : RepositoryConfig) (state : RepoState) (front : List Call) (call : Call) (back : List Call) (given : List Answer) (answer : Answer) (more : List Answer) → length front ≡ length given
    → AllByRecursion (IsTrueVisit config) (visits_given config state (front ++ call ∷ back) (given ++ answer ∷ more)) → answer.fault ≡ None
    → answer ≡ (exchanged_alone config (left_by config state (calls_done front given)) call).0
given_there config state [] call back [] answer more same all none = subst (λ (f : Option Fault). IsTrueBy config (record { call = call; before = state; answer = answer }) f) none all.0
given_there config state [] call back (a ∷ given) answer more same all none = absurd (omega (arith, same))
given_there config state (c ∷ front) call back [] answer more same all none = absurd (omega (arith, same))
given_there config state (c ∷ front) call back (a ∷ given) answer more same all none =
    given_there config (left_by config state (calls_done_by c a)) front call back given answer more (omega (arith, same)) all.1 none
    ∙ ap (λ (s : RepoState). (exchanged_alone config s call).0) (sym (both config state (calls_done_by c a) (calls_done front given)))
  where
    both : (config : RepositoryConfig) (state : RepoState) (calls others : List Call) → left_by config state (calls ++ others) ≡ left_by config (left_by config state calls) others
    both config state [] others = refl
    both config state (call ∷ calls) others = both config (exchanged_alone config state call).1 calls others

-- a request that failed is as if it had not been made
pub failed_there : (front : List Call) (call : Call) (back : List Call) (given : List Answer) (answer : Answer) (more : List Answer) (arguments : List ℕ) → length front ≡ length given
    → task_of call ≡ asking arguments → is_none answer.fault ≡ false → calls_done (front ++ call ∷ back) (given ++ answer ∷ more) ≡ calls_done (front ++ back) (given ++ more)
failed_there [] call back [] answer more arguments same asked fault =
    ap (λ (cs : List Call). cs ++ calls_done back more) (ap (calls_done_in call answer) asked ∙ cond-false (is_none answer.fault) (call ∷ []) [] fault)
failed_there [] call back (a ∷ given) answer more arguments same asked fault = absurd (omega (arith, same))
failed_there (c ∷ front) call back [] answer more arguments same asked fault = absurd (omega (arith, same))
failed_there (c ∷ front) call back (a ∷ given) answer more arguments same asked fault =
    ap (λ (cs : List Call). calls_done_by c a ++ cs) (failed_there front call back given answer more arguments (omega (arith, same)) asked fault)
