-- One of many repositories changes, and the others stay as they were.
use Rattle.std.proofs.Common.{◌≡◌, ◌∙◌, ℕ, zero, suc, Bool, true, false, eqb, List, [], ◌∷◌, ◌++◌, Option, None, Some, unwrap_or, slice_set, IsTrue, refl, sym, ap, ap₂, subst}
use Rattle.std.specs.List.{list_any, slice_get}
use Rattle.std.specs.Str.{bytes_eq}
use Rattle.std.proofs.lemmas.Bool.{cond-false, eqb-true, false_from_ne_true, or_from, or_left, or_parts, or_right}
use Rattle.oai_item.specs.Item.{ItemState}
use Rattle.oai_catalogue.specs.Store.{VersionLists}
use Rattle.oai_settings.specs.Config.{RepositoryConfig}
use Rattle.oai_holdings.specs.Index.{stored_items}
use Rattle.oai_repo.specs.Fields.{HasNumbersIn, IsNew, IsStored, Keeps, KeepsOthers, RepoFields, has, numbers_of, open_lists_of, state_of, versions_in}
use Rattle.oai_repo.specs.State.{OpenLists, RepoState}
use Rattle.oai_repo.proofs.OpenListLemmas.{open_lists_same}
use Rattle.oai_repo.proofs.NeighbourLemmas.{apart_turned, held_where, stands_where, still_apart, still_held, still_stands}
use Rattle.oai_repo.proofs.NumberLemmas.{same_number, turned, unused_lacks}
use Rattle.oai_item.specs.Rules.{has_repeat}
use Rattle.oai_config.specs.Configs.{AreNamed, NamedConfig}
use Rattle.oai_host.specs.Hosts.{AreSteps, IsStep, Repository, begun}
use Rattle.oai_host.specs.Performed.{IsPerformed, StoreState}
use Rattle.oai_host.specs.NamedRepos.{AllApart, AllHeld, AllStand, AreApart, AreNamedRepos, IsApart, repo_names, repositories_of, repository_of}
use Rattle.oai_settings.specs.Config.{is_repository_name}
use Rattle.oai_http.specs.Targets.{front_of, leads_to_repository, path_of}
use Rattle.oai_host.specs.Tasks.{task_at, task_in}
use Rattle.oai_http.specs.declared.exchanges.Answer.{Answer}
use Rattle.oai_http.specs.declared.exchanges.Call.{Call}
use Rattle.oai_host.specs.declared.repositories.NamedRepo.{NamedRepo}
use Rattle.oai_http.specs.declared.targets.Endpoint.{Endpoint}
use Rattle.oai_http.proofs.TargetLemmas.{bytes_turned, clash, endpoint_is, leads_not, leads_there}
use Rattle.oai_host.proofs.PlaceLemmas.{named_last, names_last, names_set, nothing_there, same_one}

-- ---- another one stands for what it stood for

pub state_same : (other : RepoFields) (before after : VersionLists) → ((n : ℕ) → has (numbers_of other) n ≡ true → after n ≡ before n) → state_of other after ≡ state_of other before
state_same other before after same =
    let v : ℕ = other.index.version in
    let items : stored_items other.index after ≡ stored_items other.index before =
    ap (λ (o : Option (List ItemState)). unwrap_or o []) (same v (or_left (eqb v v) (has (versions_in other.table) v) (same_number v)))
    in
    let open_ones : open_lists_of other.clock other.table after ≡ open_lists_of other.clock other.table before =
    open_lists_same other.clock other.table before after (λ n there. same n (or_right (eqb v n) (has (versions_in other.table) n) there))
    in
    let with : List ItemState → OpenLists → RepoState = λ xs b. record { clock = other.clock; holdings = record { items = xs; sets = other.sets }; open_lists = b } in
    ap (λ (xs : List ItemState). with xs (open_lists_of other.clock other.table after)) items ∙ ap (with (stored_items other.index before)) open_ones

module _ (old new : RepoFields) (before after : VersionLists) (kept : KeepsOthers (numbers_of old) before (numbers_of new) after) where
  same_lists : (other : RepoFields) → HasNumbersIn other before → AreApart other old → (n : ℕ) → has (numbers_of other) n ≡ true → after n ≡ before n
  same_lists other stands apart n there = kept.others n (apart n there) (still_apart old new other before after kept stands apart n there)

  -- ---- those behind it

  rest_stand : (others : List NamedRepo) → AllStand others before → IsApart old others → AllStand others after
  rest_stand [] stand apart = tt
  rest_stand (x ∷ others) stand apart = (still_stands old new x.repo before after kept stand.0 (apart_turned old x.repo apart.0), rest_stand others stand.1 apart.1)

  rest_held : (others : List NamedRepo) → AllStand others before → IsApart old others → AllHeld others before → AllHeld others after
  rest_held [] stand apart held = tt
  rest_held (x ∷ others) stand apart held =
      (still_held old new x.repo before after kept stand.0 (apart_turned old x.repo apart.0) held.0, rest_held others stand.1 apart.1 held.1)

  rest_apart : (others : List NamedRepo) → AllStand others before → IsApart old others → IsApart new others
  rest_apart [] stand apart = tt
  rest_apart (x ∷ others) stand apart =
      (apart_turned x.repo new (still_apart old new x.repo before after kept stand.0 (apart_turned old x.repo apart.0)), rest_apart others stand.1 apart.1)

  other_step : (call : Call) (answer : Answer) (m n : StoreState) (x : NamedRepo) → HasNumbersIn x.repo before → AreApart x.repo old → leads_to_repository x.name call.target ≡ false
      → IsStep call answer m n (repository_of before x) (repository_of after x)
  other_step call answer m n x stands apart elsewhere = record {
    name = refl;
    config = refl;
    own = λ leads. clash (leads_to_repository x.name call.target) leads elsewhere;
    other = λ _. state_same x.repo before after (same_lists x.repo stands apart);
  }

  rest_steps : (call : Call) (answer : Answer) (m n : StoreState) (endpoint : Endpoint) (name : List ℕ) (others : List NamedRepo) → AllStand others before → IsApart old others
      → path_of call.target ≡ front_of endpoint ++ name → list_any (bytes_eq name) (repo_names others) ≡ false
      → AreSteps call answer m n (repositories_of others before) (repositories_of others after)
  rest_steps call answer m n endpoint name [] stand apart path unused = tt
  rest_steps call answer m n endpoint name (x ∷ others) stand apart path unused =
      let parts = or_parts (bytes_eq name x.name) (list_any (bytes_eq name) (repo_names others)) unused in (
        other_step call answer m n x stand.0 (apart_turned old x.repo apart.0) (leads_not endpoint name x.name call.target path parts.0),
        rest_steps call answer m n endpoint name others stand.1 apart.1 path parts.1,
      )

  rest_same : (others : List NamedRepo) → AllStand others before → IsApart old others → repositories_of others after ≡ repositories_of others before
  rest_same [] stand apart = refl
  rest_same (x ∷ others) stand apart =
      ap₂ (λ (s : RepoState) (rs : List Repository). record { name = x.name; config = x.repo.config; state = s } ∷ rs)
      (state_same x.repo before after (same_lists x.repo stand.0 (apart_turned old x.repo apart.0))) (rest_same others stand.1 apart.1)

-- ---- the one at a place

apart_at : (a : RepoFields) (repos : List NamedRepo) (i : ℕ) (one : NamedRepo) → slice_get repos i ≡ Some one → IsApart a repos → AreApart a one.repo
apart_at a [] i one there apart = nothing_there one there
apart_at a (x ∷ repos) zero one there apart = subst (λ (y : NamedRepo). AreApart a y.repo) (same_one x one there) apart.0
apart_at a (x ∷ repos) (suc i) one there apart = apart_at a repos i one there apart.1

apart_set : (a : RepoFields) (repos : List NamedRepo) (i : ℕ) (other : NamedRepo) → IsApart a repos → AreApart a other.repo → IsApart a (slice_set repos i other)
apart_set a [] i other apart new = tt
apart_set a (x ∷ repos) zero other apart new = (new, apart.1)
apart_set a (x ∷ repos) (suc i) other apart new = (apart.0, apart_set a repos i other apart.1 new)

pub stands_at : (repos : List NamedRepo) (i : ℕ) (one : NamedRepo) (lists : VersionLists) → slice_get repos i ≡ Some one → AllStand repos lists → HasNumbersIn one.repo lists
stands_at [] i one lists there stand = nothing_there one there
stands_at (x ∷ repos) zero one lists there stand = subst (λ (y : NamedRepo). HasNumbersIn y.repo lists) (same_one x one there) stand.0
stands_at (x ∷ repos) (suc i) one lists there stand = stands_at repos i one lists there stand.1

pub held_at : (repos : List NamedRepo) (i : ℕ) (one : NamedRepo) (lists : VersionLists) → slice_get repos i ≡ Some one → AllHeld repos lists → IsStored one.repo lists
held_at [] i one lists there held = nothing_there one there
held_at (x ∷ repos) zero one lists there held = subst (λ (y : NamedRepo). IsStored y.repo lists) (same_one x one there) held.0
held_at (x ∷ repos) (suc i) one lists there held = held_at repos i one lists there held.1

pub unused_at : (name : List ℕ) (repos : List NamedRepo) (i : ℕ) (one : NamedRepo) → slice_get repos i ≡ Some one → list_any (bytes_eq name) (repo_names repos) ≡ false → bytes_eq name one.name ≡ false
unused_at name [] i one there unused = nothing_there one there
unused_at name (x ∷ repos) zero one there unused =
    subst (λ (y : NamedRepo). bytes_eq name y.name ≡ false) (same_one x one there) (or_parts (bytes_eq name x.name) (list_any (bytes_eq name) (repo_names repos)) unused).0
unused_at name (x ∷ repos) (suc i) one there unused = unused_at name repos i one there (or_parts (bytes_eq name x.name) (list_any (bytes_eq name) (repo_names repos)) unused).1

module _ (one : NamedRepo) (new : RepoFields) (before after : VersionLists) (kept : KeepsOthers (numbers_of one.repo) before (numbers_of new) after) where
  abbrev changed : NamedRepo
  changed = record { name = one.name; repo = new }

  set_stand : (repos : List NamedRepo) (i : ℕ) → slice_get repos i ≡ Some one → AllStand repos before → AllApart repos → HasNumbersIn new after → AllStand (slice_set repos i changed) after
  set_stand [] i there stand apart stands = tt
  set_stand (x ∷ repos) zero there stand apart stands =
      (stands, rest_stand one.repo new before after kept repos stand.1 (subst (λ (y : NamedRepo). IsApart y.repo repos) (same_one x one there) apart.0))
  set_stand (x ∷ repos) (suc i) there stand apart stands =
      (still_stands one.repo new x.repo before after kept stand.0 (apart_at x.repo repos i one there apart.0), set_stand repos i there stand.1 apart.1 stands)

  set_held : (repos : List NamedRepo) (i : ℕ) → slice_get repos i ≡ Some one → AllStand repos before → AllApart repos → AllHeld repos before → IsStored new after → AllHeld (slice_set repos i changed) after
  set_held [] i there stand apart held holds = tt
  set_held (x ∷ repos) zero there stand apart held holds =
      (holds, rest_held one.repo new before after kept repos stand.1 (subst (λ (y : NamedRepo). IsApart y.repo repos) (same_one x one there) apart.0) held.1)
  set_held (x ∷ repos) (suc i) there stand apart held holds =
      (still_held one.repo new x.repo before after kept stand.0 (apart_at x.repo repos i one there apart.0) held.0, set_held repos i there stand.1 apart.1 held.1 holds)

  set_apart : (repos : List NamedRepo) (i : ℕ) → slice_get repos i ≡ Some one → AllStand repos before → AllApart repos → AllApart (slice_set repos i changed)
  set_apart [] i there stand apart = tt
  set_apart (x ∷ repos) zero there stand apart =
      (rest_apart one.repo new before after kept repos stand.1 (subst (λ (y : NamedRepo). IsApart y.repo repos) (same_one x one there) apart.0), apart.1)
  set_apart (x ∷ repos) (suc i) there stand apart =
      (apart_set x.repo repos i changed apart.0 (still_apart one.repo new x.repo before after kept stand.0 (apart_at x.repo repos i one there apart.0)), set_apart repos i there stand.1 apart.1)

  set_steps : (call : Call) (answer : Answer) (m n : StoreState) (endpoint : Endpoint) (repos : List NamedRepo) (i : ℕ) → slice_get repos i ≡ Some one → AllStand repos before → AllApart repos
      → has_repeat (repo_names repos) ≡ false → path_of call.target ≡ front_of endpoint ++ one.name
      → IsStep call answer m n (repository_of before one) (repository_of after changed)
      → AreSteps call answer m n (repositories_of repos before) (repositories_of (slice_set repos i changed) after)
  set_steps call answer m n endpoint [] i there stand apart distinct path step = nothing_there one there
  set_steps call answer m n endpoint (x ∷ repos) zero there stand apart distinct path step =
      let same = same_one x one there in
      let parts = or_parts (list_any (bytes_eq x.name) (repo_names repos)) (has_repeat (repo_names repos)) distinct in (
        subst (λ (y : NamedRepo). IsStep call answer m n (repository_of before y) (repository_of after changed)) (sym same) step,
        rest_steps one.repo new before after kept call answer m n endpoint one.name repos stand.1 (subst (λ (y : NamedRepo). IsApart y.repo repos) same apart.0) path
            (subst (λ (y : NamedRepo). list_any (bytes_eq y.name) (repo_names repos) ≡ false) same parts.0),
      )
  set_steps call answer m n endpoint (x ∷ repos) (suc i) there stand apart distinct path step =
      let parts = or_parts (list_any (bytes_eq x.name) (repo_names repos)) (has_repeat (repo_names repos)) distinct in
      let differ = unused_at x.name repos i one there parts.0 in (
        other_step one.repo new before after kept call answer m n x stand.0 (apart_at x.repo repos i one there apart.0) (leads_not endpoint one.name x.name call.target path (bytes_turned x.name one.name differ)),
        set_steps call answer m n endpoint repos i there stand.1 apart.1 parts.1 path step,
      )

  set_repositories : (repos : List NamedRepo) (i : ℕ) → slice_get repos i ≡ Some one → AllStand repos before → AllApart repos
      → repositories_of (slice_set repos i changed) after ≡ slice_set (repositories_of repos before) i (repository_of after changed)
  set_repositories [] i there stand apart = nothing_there one there
  set_repositories (x ∷ repos) zero there stand apart =
      ap (λ (rs : List Repository). repository_of after changed ∷ rs)
      (rest_same one.repo new before after kept repos stand.1 (subst (λ (y : NamedRepo). IsApart y.repo repos) (same_one x one there) apart.0))
  set_repositories (x ∷ repos) (suc i) there stand apart =
      ap₂ (λ (s : RepoState) (rs : List Repository). record { name = x.name; config = x.repo.config; state = s } ∷ rs)
      (state_same x.repo before after (same_lists one.repo new before after kept x.repo stand.0 (apart_at x.repo repos i one there apart.0))) (set_repositories repos i there stand.1 apart.1)

-- all of it
pub repos_set : (was is : Bool) (repos : List NamedRepo) (i : ℕ) (one : NamedRepo) (new : RepoFields) (before after : VersionLists) → is ≡ was → slice_get repos i ≡ Some one → AreNamedRepos was repos before
    → Keeps was one.repo before new after → AreNamedRepos is (slice_set repos i (record { name = one.name; repo = new })) after
repos_set was is repos i one new before after same there old kept = record {
  named = subst (λ (names : List (List ℕ)). AreNamed names) (sym (names_set repos i one new there)) old.named;
  stand = set_stand one new before after kept.others repos i there old.stand old.apart kept.stands;
  held = λ honest. let then_too = subst (λ (b : Bool). IsTrue b) same honest in set_held one new before after kept.others repos i there old.stand old.apart (old.held then_too) (kept.held then_too);
  apart = set_apart one new before after kept.others repos i there old.stand old.apart;
}

pub repositories_set : (was : Bool) (repos : List NamedRepo) (i : ℕ) (one : NamedRepo) (new : RepoFields) (before after : VersionLists) → slice_get repos i ≡ Some one → AreNamedRepos was repos before → Keeps was one.repo before new after
    → repositories_of (slice_set repos i (record { name = one.name; repo = new })) after ≡ slice_set (repositories_of repos before) i (repository_of after (record { name = one.name; repo = new }))
repositories_set was repos i one new before after there old kept = set_repositories one new before after kept.others repos i there old.stand old.apart

pub steps_set : (was : Bool) (call : Call) (answer : Answer) (m n : StoreState) (endpoint : Endpoint) (repos : List NamedRepo) (i : ℕ) (one : NamedRepo) (new : RepoFields) (before after : VersionLists) → slice_get repos i ≡ Some one → AreNamedRepos was repos before
    → Keeps was one.repo before new after → has_repeat (repo_names repos) ≡ false → path_of call.target ≡ front_of endpoint ++ one.name
    → IsPerformed one.repo.config call.moment (task_in endpoint call) answer (state_of one.repo before) m (state_of new after) n
    → AreSteps call answer m n (repositories_of repos before) (repositories_of (slice_set repos i (record { name = one.name; repo = new })) after)
steps_set was call answer m n endpoint repos i one new before after there old kept distinct path performed =
    set_steps one new before after kept.others call answer m n endpoint repos i there old.stand old.apart distinct path (record {
      name = refl;
      config = kept.config;
      own = λ _. subst (λ (at : Option Endpoint). IsPerformed one.repo.config call.moment (task_at at call) answer (state_of one.repo before) m (state_of new after) n) (sym (endpoint_is endpoint one.name call.target path)) performed;
      other = λ elsewhere. clash (leads_to_repository one.name call.target) (leads_there endpoint one.name call.target path) elsewhere;
    })

-- ---- one more

-- each of those that were there stays as it was, where a new number is taken
module _ (w : ℕ) (before after : VersionLists) (free : before w ≡ None) (listed : (n : ℕ) → eqb n w ≡ false → after n ≡ before n) where
  untouched : (other : RepoFields) → HasNumbersIn other before → (n : ℕ) → has (numbers_of other) n ≡ true → after n ≡ before n
  untouched other stands n there =
      listed n (false_from_ne_true (eqb n w) (λ same. clash (has (numbers_of other) n) there (ap (has (numbers_of other)) (eqb-true n w same) ∙ unused_lacks (numbers_of other) before w stands.used free)))

  fresh_stand : (repos : List NamedRepo) → AllStand repos before → AllStand repos after
  fresh_stand [] stand = tt
  fresh_stand (x ∷ repos) stand = (stands_where x.repo before after (untouched x.repo stand.0) stand.0, fresh_stand repos stand.1)

  fresh_held : (repos : List NamedRepo) → AllStand repos before → AllHeld repos before → AllHeld repos after
  fresh_held [] stand held = tt
  fresh_held (x ∷ repos) stand held = (held_where x.repo before after (untouched x.repo stand.0) held.0, fresh_held repos stand.1 held.1)

  fresh_same : (repos : List NamedRepo) → AllStand repos before → repositories_of repos after ≡ repositories_of repos before
  fresh_same [] stand = refl
  fresh_same (x ∷ repos) stand =
      ap (λ (s : RepoState). record { name = x.name; config = x.repo.config; state = s } ∷ repositories_of repos after) (state_same x.repo before after (untouched x.repo stand.0))
      ∙ ap (λ (rs : List Repository). repository_of before x ∷ rs) (fresh_same repos stand.1)

  fresh_apart : (x : RepoFields) (new : RepoFields) → numbers_of new ≡ w ∷ [] → HasNumbersIn x before → AreApart x new
  fresh_apart x new alone stands n there =
      ap (λ (numbers : List ℕ). has numbers n) alone
      ∙ or_from (eqb w n) false (turned n w (false_from_ne_true (eqb n w) (λ same. clash (has (numbers_of x) n) there (ap (has (numbers_of x)) (eqb-true n w same) ∙ unused_lacks (numbers_of x) before w stands.used free)))) refl

  fresh_all_apart : (repos : List NamedRepo) (one : NamedRepo) → numbers_of one.repo ≡ w ∷ [] → AllStand repos before → AllApart repos → AllApart (repos ++ one ∷ [])
  fresh_all_apart [] one alone stand apart = (tt, tt)
  fresh_all_apart (x ∷ repos) one alone stand apart = (apart_last x.repo repos one apart.0 (fresh_apart x.repo one.repo alone stand.0), fresh_all_apart repos one alone stand.1 apart.1)
    where
      apart_last : (a : RepoFields) (others : List NamedRepo) (one : NamedRepo) → IsApart a others → AreApart a one.repo → IsApart a (others ++ one ∷ [])
      apart_last a [] one others_apart new = (new, tt)
      apart_last a (y ∷ others) one others_apart new = (others_apart.0, apart_last a others one others_apart.1 new)

stand_last : (repos : List NamedRepo) (one : NamedRepo) (lists : VersionLists) → AllStand repos lists → HasNumbersIn one.repo lists → AllStand (repos ++ one ∷ []) lists
stand_last [] one lists stand stands = (stands, tt)
stand_last (x ∷ repos) one lists stand stands = (stand.0, stand_last repos one lists stand.1 stands)

held_last : (repos : List NamedRepo) (one : NamedRepo) (lists : VersionLists) → AllHeld repos lists → IsStored one.repo lists → AllHeld (repos ++ one ∷ []) lists
held_last [] one lists held holds = (holds, tt)
held_last (x ∷ repos) one lists held holds = (held.0, held_last repos one lists held.1 holds)

repositories_last : (repos : List NamedRepo) (one : NamedRepo) (lists : VersionLists) → repositories_of (repos ++ one ∷ []) lists ≡ repositories_of repos lists ++ repository_of lists one ∷ []
repositories_last [] one lists = refl
repositories_last (x ∷ repos) one lists = ap (λ (rs : List Repository). repository_of lists x ∷ rs) (repositories_last repos one lists)

elsewhere : (config : RepositoryConfig) (before after : VersionLists) (new : RepoFields) → IsNew config before new after → (n : ℕ) → eqb n new.index.version ≡ false → after n ≡ before n
elsewhere config before after new is_new n other = ap (λ (lists : VersionLists). lists n) is_new.listed ∙ cond-false (eqb n new.index.version) (Some []) (before n) other

pub repos_last : (was is : Bool) (repos : List NamedRepo) (name : List ℕ) (config : RepositoryConfig) (new : RepoFields) (before after : VersionLists) → is ≡ was → AreNamedRepos was repos before → is_repository_name name ≡ true → list_any (bytes_eq name) (repo_names repos) ≡ false
    → IsNew config before new after → AreNamedRepos is (repos ++ record { name = name; repo = new } ∷ []) after
repos_last was is repos name config new before after same old named unused is_new =
    let one : NamedRepo = record { name = name; repo = new } in
    let w : ℕ = new.index.version in
    let listed = elsewhere config before after new is_new in
    record {
      named = subst (λ (names : List (List ℕ)). AreNamed names) (sym (names_last repos one)) (named_last (repo_names repos) name old.named named unused);
      stand = stand_last repos one after (fresh_stand w before after is_new.unused listed repos old.stand) is_new.stands;
      held = λ honest. held_last repos one after (fresh_held w before after is_new.unused listed repos old.stand (old.held (subst (λ (b : Bool). IsTrue b) same honest))) is_new.held;
      apart = fresh_all_apart w before after is_new.unused listed repos one (ap (λ (numbers : List ℕ). w ∷ numbers) is_new.alone) old.stand old.apart;
    }

pub begun_last : (was : Bool) (repos : List NamedRepo) (entry : NamedConfig) (new : RepoFields) (before after : VersionLists) → AreNamedRepos was repos before → IsNew entry.config before new after
    → repositories_of (repos ++ record { name = entry.name; repo = new } ∷ []) after ≡ repositories_of repos before ++ begun entry ∷ []
begun_last was repos entry new before after old is_new =
    let one : NamedRepo = record { name = entry.name; repo = new } in
    repositories_last repos one after
    ∙ ap (λ (rs : List Repository). rs ++ repository_of after one ∷ []) (fresh_same new.index.version before after is_new.unused (elsewhere entry.config before after new is_new) repos old.stand)
    ∙ ap (λ (c : RepositoryConfig). repositories_of repos before ++ record { name = entry.name; config = c; state = state_of new after } ∷ []) is_new.configured
    ∙ ap (λ (s : RepoState). repositories_of repos before ++ record { name = entry.name; config = entry.config; state = s } ∷ []) is_new.empty
