-- The theorem of a server over all its lives.
use Rattle.std.proofs.Common.{◌≡◌, ◌∙◌, ◌≤◌, ℕ, suc, List, [], ◌∷◌, ◌++◌, map, Option, None, Some, arith, refl, sym, ap, subst}
use Rattle.std.specs.List.{All, AllByRecursion, AllZip}
use Rattle.oai_lists.specs.declared.lists.TheConstants.{LAST_NUMBER}
use Rattle.oai_settings.specs.Config.{RepositoryConfig}
use Rattle.oai_repo.specs.State.{RepoState, empty_state}
use Rattle.oai_config.specs.Configs.{HostConfig, NamedConfig}
use Rattle.oai_host.specs.Emptied.{emptied_redone, emptied_restored}
use Rattle.oai_host.specs.Hosts.{HostState, Repository, begun, store_of}
use Rattle.oai_host.specs.Performed.{StoreState}
use Rattle.oai_host.specs.Saved.{emptied_in, ended_at, ended_in}
use Rattle.oai_journal.specs.Records.{Entry}
use Rattle.oai_durable.specs.Records.{redone_all}
use Rattle.oai_durable.proofs.CheckpointLemmas.{checkpoint_left}
use Rattle.oai_headline.specs.Eras.{AreTrueOver, FollowListsOver, HaveNumbersIn, MissNothingOver, VisitedEra, era_leaves, eras_leave}
use Rattle.oai_startup.specs.Rules.{HasRules, HaveRules}
use Rattle.oai_headline.proofs.ClientEraLemmas.{followed_over, harvested_over}
use Rattle.oai_headline.proofs.EraLemmas.{AreMetEach, true_each}
use Rattle.oai_service.specs.Hosting.{AreNumbered, leaving, saving}
use Rattle.oai_service.specs.Keeping.{Keeping}
use Rattle.oai_service.specs.Lives.{AreServerEras, BeginsEra, ServerEra}
use Rattle.oai_service.specs.Service.{AreEndedBetween, AreResumed, AreOverHonest, IsReceivedIn, IsRecordedIn, IsServed, LoggedTurns, all_turns, eras_told, eras_left, own_era, own_eras}
use Rattle.oai_service.specs.Turns.{answers_in, calls_in, turn_records}
use Rattle.oai_service.proofs.KeepingLemmas.{Keeps}
use Rattle.oai_service.proofs.LifeLemmas.{tell_all}
use Rattle.oai_service.proofs.OwnLemmas.{IsOwnMet, turns_met}

-- ---- how an era begins

-- where no list is open, and no number is raised, all is as it was
none_ended : (entries : List NamedConfig) → map begun entries ≡ ended_in 0 (map begun entries)
none_ended [] = refl
none_ended (entry ∷ entries) = ap (λ (rs : List Repository). begun entry ∷ rs) (none_ended entries)

pub begun_emptied : (entries : List NamedConfig) → emptied_in (map begun entries) ≡ map begun entries
begun_emptied [] = refl
begun_emptied (entry ∷ entries) = ap (λ (rs : List Repository). begun entry ∷ rs) (begun_emptied entries)

-- what is before an era
state_before : List NamedConfig → Option (List Entry) → List Repository
state_before entries None = map begun entries
state_before entries (Some before) = redone_all leaving (map begun entries) before

era_begun : {S X : Type 0} (entries : List NamedConfig) (before : Option (List Entry)) (era : ServerEra S X) → BeginsEra saving (map begun entries) before era
    → redone_all leaving (map begun entries) era.found ≡ ended_in era.raise (state_before entries before)
unfolding state_before
era_begun entries None era begins =
    ap (redone_all leaving (map begun entries)) begins.0 ∙ none_ended entries ∙ ap (λ (n : ℕ). ended_in n (map begun entries)) (sym begins.1)
era_begun entries (Some before) era begins =
    checkpoint_left saving (map begun entries) before era.raise era.found (record { redone = emptied_redone; restored = emptied_restored }) (begun_emptied entries) begins

-- ---- a repository over eras

record IsOwnMetOver (eras : List VisitedEra) (before after : Repository) : Type 0 where
  pub name : after.name ≡ before.name
  pub config : after.config ≡ before.config
  pub met : AreMetEach before.config before.state (own_eras before.name eras)
  pub numbers : HaveNumbersIn before.config before.state (own_eras before.name eras)
  pub leaves : after.state ≡ eras_leave before.config before.state (own_eras before.name eras)

-- what is known of the eras behind a state
record AreMetBehind (config : RepositoryConfig) (state : RepoState) (eras : List VisitedEra) (after : RepoState) : Type 0 where
  pub met : AreMetEach config state eras
  pub numbers : HaveNumbersIn config state eras
  pub leaves : after ≡ eras_leave config state eras

behind_of : (eras : List VisitedEra) (between after : Repository) → IsOwnMetOver eras between after → AreMetBehind between.config between.state (own_eras between.name eras) after.state
behind_of eras between after over = record { met = over.met; numbers = over.numbers; leaves = over.leaves }

own_over : (era : VisitedEra) (eras : List VisitedEra) (x y z : Repository) → (ended_at era.raise x).state.open_lists.next ≤ LAST_NUMBER → IsOwnMet era.calls era.answers (ended_at era.raise x) y
    → IsOwnMetOver eras y z → IsOwnMetOver (era ∷ eras) x z
own_over era eras x y z few own over =
    let own_first : VisitedEra = own_era x.name era in
    let left : y.state ≡ era_leaves x.config x.state own_first = own.met.left in
    let named = subst (λ (name : List ℕ). AreMetBehind y.config y.state (own_eras name eras) z.state) own.name (behind_of eras y z over) in
    let set = subst (λ (config : RepositoryConfig). AreMetBehind config y.state (own_eras x.name eras) z.state) own.config named in
    let rest : AreMetBehind x.config (era_leaves x.config x.state own_first) (own_eras x.name eras) z.state =
    subst (λ (state : RepoState). AreMetBehind x.config state (own_eras x.name eras) z.state) left set in
    record {
      name = over.name ∙ own.name;
      config = over.config ∙ own.config;
      met = (record { given = own.met.given; leaves = refl; alone = own.met.alone }, rest.met);
      numbers = (few, rest.numbers);
      leaves = rest.leaves;
    }

each_over : (era : VisitedEra) (eras : List VisitedEra) (before between after : List Repository) → AreNumbered (ended_in era.raise before)
    → AllZip (IsOwnMet era.calls era.answers) (ended_in era.raise before) between → AllZip (IsOwnMetOver eras) between after → AllZip (IsOwnMetOver (era ∷ eras)) before after
each_over era eras [] [] [] few own over = tt
each_over era eras [] [] (z ∷ after) few own over = absurd over
each_over era eras [] (y ∷ between) after few own over = absurd own
each_over era eras (x ∷ before) [] after few own over = absurd own
each_over era eras (x ∷ before) (y ∷ between) [] few own over = absurd over
each_over era eras (x ∷ before) (y ∷ between) (z ∷ after) few own over = (own_over era eras x y z few.0 own.0 over.0, each_over era eras before between after few.1 own.1 over.1)

none_over : (repositories : List Repository) → AllZip (IsOwnMetOver []) repositories repositories
none_over [] = tt
none_over (x ∷ repositories) = (record { name = refl; config = refl; met = tt; numbers = tt; leaves = refl }, none_over repositories)

-- ---- eras

-- what is told of eras
record TellsEras {S X : Type 0} (keeping : Keeping X (List Repository)) (store : X → StoreState) (contents remaining : S → Option (List ℕ)) (begins before : List Repository) (eras : List (ServerEra S X)) : Type 0 where
  pub told : List (List LoggedTurns)
  pub received : AllZip (λ (era : ServerEra S X) (t : List LoggedTurns). AllZip (IsReceivedIn contents remaining) era.lives t) eras told
  pub recorded : AllZip (λ (era : ServerEra S X) (t : List LoggedTurns). AllZip (IsRecordedIn keeping.changes store begins) era.lives t) eras told
  pub kept : AllZip (λ (era : ServerEra S X) (t : List LoggedTurns). AreResumed (keeping.stands begins) era.found era.lives t era.left) eras told
  pub ended : AreEndedBetween begins before eras
  pub met : AreOverHonest store eras → AllZip (IsOwnMetOver (eras_told eras told)) before (eras_left begins before eras)

module _ {S X : Type 0} (keeping : Keeping X (List Repository)) (view : X → HostState) (contents remaining : S → Option (List ℕ)) (entries : List NamedConfig)
    (keeps : Keeps keeping view (map begun entries)) where
  tell_eras : (before : Option (List Entry)) (eras : List (ServerEra S X)) → AreServerEras keeping saving contents remaining (map begun entries) before eras
      → AllByRecursion (λ (era : ServerEra S X). AreNumbered (redone_all leaving (map begun entries) era.found)) eras
      → TellsEras keeping (λ (x : X). store_of (view x)) contents remaining (map begun entries) (state_before entries before) eras
  unfolding state_before
  tell_eras before [] are numbers = record { told = []; received = tt; recorded = tt; kept = tt; ended = tt; met = λ so. none_over (state_before entries before) }
  tell_eras before (era ∷ eras) are numbers =
      let all = tell_all keeping view contents remaining (map begun entries) keeps era.found era.lives era.left are.1 in
      let rest = tell_eras (Some era.left) eras are.2 numbers.1 in
      let starts : redone_all leaving (map begun entries) era.found ≡ ended_in era.raise (state_before entries before) = era_begun entries before era are.0 in
      let turns = all_turns all.told in
      record {
        told = all.told ∷ rest.told;
        received = (all.received, rest.received);
        recorded = (all.recorded, rest.recorded);
        kept = (all.kept, rest.kept);
        ended = (starts, rest.ended);
        met = λ so.
            let own = turns_met (map begun entries) era.found turns (all.turned so.0) in
            let to_left = subst (λ (rs : List Repository). AllZip (IsOwnMet (calls_in turns) (answers_in turns)) (redone_all leaving (map begun entries) era.found) rs)
            (sym (keeps.leaves era.left (era.found ++ turn_records turns) all.leaves)) own in
            let from = subst (λ (rs : List Repository). AllZip (IsOwnMet (calls_in turns) (answers_in turns)) rs (redone_all leaving (map begun entries) era.left)) starts to_left in
            each_over (record { raise = era.raise; calls = calls_in turns; answers = answers_in turns }) (eras_told eras rest.told) (state_before entries before)
            (redone_all leaving (map begun entries) era.left) (eras_left (map begun entries) (redone_all leaving (map begun entries) era.left) eras)
            (subst AreNumbered starts numbers.0) from (rest.met so.1);
      }

-- ---- the server

each_rules : (entries : List NamedConfig) → All HasRules entries → AllByRecursion HasRules entries
each_rules [] h = tt
each_rules (entry ∷ entries) h = (h 0 entry (omega arith), each_rules entries (λ k d within. h (suc k) d (omega (arith, within))))

true_at : (eras : List VisitedEra) (entries : List NamedConfig) (after : List Repository) → AllZip (IsOwnMetOver eras) (map begun entries) after
    → AllZip (λ (entry : NamedConfig) (repository : Repository). AreTrueOver entry.config (own_eras entry.name eras) repository.state) entries after
true_at eras [] [] met = tt
true_at eras [] (y ∷ after) met = absurd met
true_at eras (entry ∷ entries) [] met = absurd met
true_at eras (entry ∷ entries) (y ∷ after) met =
    (record { each = true_each entry.config (empty_state entry.config) (own_eras entry.name eras) met.0.met; state = met.0.leaves }, true_at eras entries after met.1)

followed_at : (eras : List VisitedEra) (entries : List NamedConfig) (after : List Repository) → AllByRecursion HasRules entries → AllZip (IsOwnMetOver eras) (map begun entries) after
    → AllByRecursion (λ (entry : NamedConfig). FollowListsOver entry.config (own_eras entry.name eras)) entries
followed_at eras [] after rules met = tt
followed_at eras (entry ∷ entries) [] rules met = absurd met
followed_at eras (entry ∷ entries) (y ∷ after) rules met =
    (followed_over entry.config (own_eras entry.name eras) rules.0.rules rules.0.formats met.0.numbers met.0.met, followed_at eras entries after rules.1 met.1)

harvested_at : (eras : List VisitedEra) (entries : List NamedConfig) (after : List Repository) → AllByRecursion HasRules entries → AllZip (IsOwnMetOver eras) (map begun entries) after
    → AllByRecursion (λ (entry : NamedConfig). MissNothingOver entry.config (own_eras entry.name eras)) entries
harvested_at eras [] after rules met = tt
harvested_at eras (entry ∷ entries) [] rules met = absurd met
harvested_at eras (entry ∷ entries) (y ∷ after) rules met =
    (harvested_over entry.config (own_eras entry.name eras) rules.0.rules rules.0.formats met.0.numbers met.0.met, harvested_at eras entries after rules.1 met.1)

pub served : {S X : Type 0} (keeping : Keeping X (List Repository)) (view : X → HostState) (contents remaining : S → Option (List ℕ)) (config : HostConfig)
    → Keeps keeping view (map begun config.repositories) → (eras : List (ServerEra S X)) → HaveRules config
    → AreServerEras keeping saving contents remaining (map begun config.repositories) None eras
    → AllByRecursion (λ (era : ServerEra S X). AreNumbered (redone_all leaving (map begun config.repositories) era.found)) eras
    → IsServed keeping (λ (x : X). store_of (view x)) config contents remaining eras
unfolding state_before
served keeping view contents remaining config keeps eras rules are numbers =
    let entries : List NamedConfig = config.repositories in
    let all = tell_eras keeping view contents remaining entries keeps None eras are numbers in
    let its : List VisitedEra = eras_told eras all.told in
    let left : List Repository = eras_left (map begun entries) (map begun entries) eras in
    let each = each_rules entries rules in
    record {
      told = all.told;
      received = all.received;
      recorded = all.recorded;
      kept = all.kept;
      ended = all.ended;
      answered = λ so. true_at its entries left (all.met so);
      followed = λ so. followed_at its entries left each (all.met so);
      harvested = λ so. harvested_at its entries left each (all.met so);
    }
