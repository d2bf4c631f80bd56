-- Which repository an exchange is for, and what is answered where it is none's.
use Rattle.std.proofs.Common.{◌≡◌, ◌∙◌, ℕ, zero, suc, true, false, not, List, [], ◌∷◌, ◌++◌, map, None, Some, refl, sym, ap, subst, arith}
use Rattle.std.specs.List.{list_all, list_any, slice_get}
use Rattle.std.specs.Str.{bytes_eq}
use Rattle.std.proofs.lemmas.Bool.{and_parts, false_from_ne_true, not-true, or_from, or_parts}
use Rattle.oai_catalogue.specs.Store.{IsHonest, VersionLists}
use Rattle.oai_device.specs.Device.{CountsFailures}
use Rattle.oai_item.specs.declared.faults.Fault.TheVariants.{Device}
use Rattle.oai_item.specs.Rules.{has_repeat}
use Rattle.oai_config.specs.Configs.{AreNamed, NamedConfig, repository_names}
use Rattle.oai_host.specs.Answers.{failure_in}
use Rattle.oai_host.specs.Hosts.{AreSteps, HostState, IsExchanged, Repository, begun, is_of_none, refused, store_of}
use Rattle.oai_host.specs.Performed.{StoreState}
use Rattle.oai_host.specs.NamedRepos.{repo_names, place_in, repositories_of}
use Rattle.oai_settings.specs.Config.{is_repository_name}
use Rattle.oai_http.specs.Targets.{endpoint_of, front_of, leads_to_repository, path_of}
use Rattle.oai_host.specs.Places.{IsRepoPlace, LeadsNowhere}
use Rattle.oai_http.specs.declared.exchanges.Answer.{Answer}
use Rattle.oai_http.specs.declared.exchanges.Call.{Call}
use Rattle.oai_host.specs.declared.repositories.NamedRepo.{NamedRepo}
use Rattle.oai_http.specs.declared.targets.Endpoint.{Endpoint}
use Rattle.oai_http.proofs.TargetLemmas.{bytes_same, bytes_turned, clash, endpoint_is, leads_by, leads_there}
use Rattle.oai_host.proofs.PlaceLemmas.{nothing_there, place_none, place_there, same_one}
use Rattle.oai_host.proofs.RouteLemmas.{one_some, same_front}

-- a path that is none of the two
pub nowhere_path : (repos : List NamedRepo) (target : List ℕ) → list_all is_repository_name (repo_names repos) ≡ true → ((endpoint : Endpoint) (name : List ℕ) → is_repository_name name ≡ true → path_of target ≡ front_of endpoint ++ name → ⊥)
    → LeadsNowhere repos target
nowhere_path [] target named never = tt
nowhere_path (x ∷ repos) target named never =
    let parts = and_parts (is_repository_name x.name) (list_all is_repository_name (repo_names repos)) named in
    (false_from_ne_true (leads_to_repository x.name target) (λ leads. let by = leads_by x.name target leads in never by.0 x.name parts.0 by.1), nowhere_path repos target parts.1 never)

-- a target that has no endpoint
pub nowhere_else : (repos : List NamedRepo) (target : List ℕ) → list_all is_repository_name (repo_names repos) ≡ true → endpoint_of target ≡ None → LeadsNowhere repos target
nowhere_else repos target named none = nowhere_path repos target named (λ endpoint name is path. nothing_there endpoint (sym none ∙ endpoint_is endpoint name target path))

-- a path has one endpoint, and one end
pub one_end : (endpoint other : Endpoint) (behind name target : List ℕ) → path_of target ≡ front_of endpoint ++ behind → path_of target ≡ front_of other ++ name → behind ≡ name
one_end endpoint other behind name target path also =
    let same : other ≡ endpoint = one_some other endpoint (sym (endpoint_is other name target also) ∙ endpoint_is endpoint behind target path) in
    same_front endpoint behind name (sym path ∙ also ∙ ap (λ (e : Endpoint). front_of e ++ name) same)

-- one that ends with no name
pub nowhere_behind : (repos : List NamedRepo) (endpoint : Endpoint) (behind target : List ℕ) → list_all is_repository_name (repo_names repos) ≡ true → path_of target ≡ front_of endpoint ++ behind
    → is_repository_name behind ≡ false → LeadsNowhere repos target
nowhere_behind repos endpoint behind target named path no_name =
    nowhere_path repos target named (λ other name is also. clash (is_repository_name behind) (ap is_repository_name (one_end endpoint other behind name target path also) ∙ is) no_name)

-- a name that none has
nowhere_among : (repos : List NamedRepo) (target name : List ℕ) → list_all is_repository_name (repo_names repos) ≡ true → list_any (λ (one : List ℕ). bytes_eq one name) (repo_names repos) ≡ false
    → ((endpoint : Endpoint) (other : List ℕ) → is_repository_name other ≡ true → path_of target ≡ front_of endpoint ++ other → name ≡ other) → LeadsNowhere repos target
nowhere_among [] target name named none only = tt
nowhere_among (x ∷ repos) target name named none only =
    let parts = and_parts (is_repository_name x.name) (list_all is_repository_name (repo_names repos)) named in
    let apart = or_parts (bytes_eq x.name name) (list_any (λ (one : List ℕ). bytes_eq one name) (repo_names repos)) none in (
      false_from_ne_true (leads_to_repository x.name target) (λ leads.
          let by = leads_by x.name target leads in
          clash (bytes_eq x.name name) (ap (bytes_eq x.name) (only by.0 x.name parts.0 by.1) ∙ bytes_same x.name) apart.0),
      nowhere_among repos target name parts.1 apart.1 only,
    )

pub nowhere_name : (repos : List NamedRepo) (target name : List ℕ) → list_all is_repository_name (repo_names repos) ≡ true → place_in (repo_names repos) name ≡ None
    → ((endpoint : Endpoint) (other : List ℕ) → is_repository_name other ≡ true → path_of target ≡ front_of endpoint ++ other → name ≡ other) → LeadsNowhere repos target
nowhere_name repos target name named none only = nowhere_among repos target name named (place_none (repo_names repos) name none) only

pub place_found : (repos : List NamedRepo) (target name : List ℕ) (place : ℕ) (endpoint : Endpoint) → place_in (repo_names repos) name ≡ Some place → path_of target ≡ front_of endpoint ++ name → IsRepoPlace repos place endpoint target
place_found repos target name place endpoint found path =
    let there = place_there repos name place found in
    record { one = there.0; there = there.1; path = path ∙ ap (λ (n : List ℕ). front_of endpoint ++ n) (sym there.2) }

-- ---- answers

-- the exchange is a repository's
owned : {P : Type 0} (repos : List NamedRepo) (i : ℕ) (one : NamedRepo) (lists : VersionLists) (call : Call) → slice_get repos i ≡ Some one → leads_to_repository one.name call.target ≡ true
    → is_of_none (repositories_of repos lists) call ≡ true → P
owned [] i one lists call there leads none = nothing_there one there
owned (x ∷ repos) zero one lists call there leads none =
    let parts = and_parts (not (leads_to_repository x.name call.target)) (is_of_none (repositories_of repos lists) call) none in
    clash (leads_to_repository x.name call.target) (ap (λ (y : NamedRepo). leads_to_repository y.name call.target) (same_one x one there) ∙ leads) (not-true (leads_to_repository x.name call.target) parts.0)
owned (x ∷ repos) (suc i) one lists call there leads none =
    owned repos i one lists call there leads (and_parts (not (leads_to_repository x.name call.target)) (is_of_none (repositories_of repos lists) call) none).1

pub owned_there : {P : Type 0} (repos : List NamedRepo) (i : ℕ) (endpoint : Endpoint) (lists : VersionLists) (call : Call) → IsRepoPlace repos i endpoint call.target → is_of_none (repositories_of repos lists) call ≡ true → P
owned_there repos i endpoint lists call place none = owned repos i place.one lists call place.there (leads_there endpoint place.one.name call.target place.path) none

-- the exchange is no repository's
none_steps : (repos : List NamedRepo) (lists : VersionLists) (call : Call) (answer : Answer) (m n : StoreState) → LeadsNowhere repos call.target → AreSteps call answer m n (repositories_of repos lists) (repositories_of repos lists)
none_steps [] lists call answer m n nowhere = tt
none_steps (x ∷ repos) lists call answer m n nowhere =
    (record { name = refl; config = refl; own = λ leads. clash (leads_to_repository x.name call.target) leads nowhere.0; other = λ _. refl }, none_steps repos lists call answer m n nowhere.1)

pub exchanged_nowhere : (repos : List NamedRepo) (lists : VersionLists) (host : HostState) (call : Call) (answer : Answer) → host.repositories ≡ repositories_of repos lists → LeadsNowhere repos call.target → answer ≡ refused call
    → IsExchanged call answer host host
exchanged_nowhere repos lists host call answer here nowhere is = record {
  each = subst (λ (rs : List Repository). AreSteps call answer (store_of host) (store_of host) rs rs) (sym here) (none_steps repos lists call answer (store_of host) (store_of host) nowhere);
  none = λ _. (is, refl);
  unsaved = refl;
  device = subst (λ (a : Answer). CountsFailures Device (failure_in a) host.failures host.failures) (sym is) (record { count = omega arith; device = tt });
  honesty = subst (λ (a : Answer). IsHonest (failure_in a) host.honest host.honest) (sym is) (record { same = refl; damaged = tt });
}

-- ---- those that begin

begun_names : (repos : List NamedRepo) (lists : VersionLists) → map (λ (r : Repository). r.name) (repositories_of repos lists) ≡ repo_names repos
begun_names [] lists = refl
begun_names (x ∷ repos) lists = ap (λ (names : List (List ℕ)). x.name ∷ names) (begun_names repos lists)

configured_names : (front : List NamedConfig) → map (λ (r : Repository). r.name) (map begun front) ≡ repository_names front
configured_names [] = refl
configured_names (x ∷ front) = ap (λ (names : List (List ℕ)). x.name ∷ names) (configured_names front)

same_names : (repos : List NamedRepo) (lists : VersionLists) (front : List NamedConfig) → repositories_of repos lists ≡ map begun front → repo_names repos ≡ repository_names front
same_names repos lists front same = sym (begun_names repos lists) ∙ ap (map (λ (r : Repository). r.name)) same ∙ configured_names front

none_apart : (name : List ℕ) (front rest : List NamedConfig) (one : NamedConfig) → list_any (bytes_eq name) (repository_names (front ++ one ∷ rest)) ≡ false → bytes_eq name one.name ≡ false
none_apart name [] rest one none = (or_parts (bytes_eq name one.name) (list_any (bytes_eq name) (repository_names rest)) none).0
none_apart name (x ∷ front) rest one none = none_apart name front rest one (or_parts (bytes_eq name x.name) (list_any (bytes_eq name) (repository_names (front ++ one ∷ rest))) none).1

unused_name : (front rest : List NamedConfig) (one : NamedConfig) → has_repeat (repository_names (front ++ one ∷ rest)) ≡ false → list_any (bytes_eq one.name) (repository_names front) ≡ false
unused_name [] rest one distinct = refl
unused_name (x ∷ front) rest one distinct =
    let parts = or_parts (list_any (bytes_eq x.name) (repository_names (front ++ one ∷ rest))) (has_repeat (repository_names (front ++ one ∷ rest))) distinct in
    or_from (bytes_eq one.name x.name) (list_any (bytes_eq one.name) (repository_names front))
    (bytes_turned x.name one.name (none_apart x.name front rest one parts.0))
    (unused_name front rest one parts.1)

named_one : (front rest : List NamedConfig) (one : NamedConfig) → list_all is_repository_name (repository_names (front ++ one ∷ rest)) ≡ true → is_repository_name one.name ≡ true
named_one [] rest one all = (and_parts (is_repository_name one.name) (list_all is_repository_name (repository_names rest)) all).0
named_one (x ∷ front) rest one all = named_one front rest one (and_parts (is_repository_name x.name) (list_all is_repository_name (repository_names (front ++ one ∷ rest))) all).1

-- the next of the repositories that are to begin has a name of its own
pub next_named : (all front rest : List NamedConfig) (one : NamedConfig) → AreNamed (repository_names all) → all ≡ front ++ one ∷ rest → is_repository_name one.name ≡ true
next_named all front rest one named is = named_one front rest one (subst (λ (hs : List NamedConfig). list_all is_repository_name (repository_names hs) ≡ true) is named.named)

pub next_unused : (all front rest : List NamedConfig) (one : NamedConfig) (repos : List NamedRepo) (lists : VersionLists) → AreNamed (repository_names all) → all ≡ front ++ one ∷ rest → repositories_of repos lists ≡ map begun front
    → list_any (bytes_eq one.name) (repo_names repos) ≡ false
next_unused all front rest one repos lists named is same =
    ap (list_any (bytes_eq one.name)) (same_names repos lists front same) ∙ unused_name front rest one (subst (λ (hs : List NamedConfig). has_repeat (repository_names hs) ≡ false) is named.distinct)

join_entry : (front rest : List NamedConfig) (one : NamedConfig) → front ++ one ∷ rest ≡ (front ++ one ∷ []) ++ rest
join_entry [] rest one = refl
join_entry (x ∷ front) rest one = ap (λ (hs : List NamedConfig). x ∷ hs) (join_entry front rest one)

map_begun : (front : List NamedConfig) (one : NamedConfig) → map begun (front ++ one ∷ []) ≡ map begun front ++ begun one ∷ []
map_begun [] one = refl
map_begun (x ∷ front) one = ap (λ (rs : List Repository). begun x ∷ rs) (map_begun front one)

-- the repositories that have begun, and the configurations of those that are to begin
pub record AreBegun (all rest : List NamedConfig) (repositories : List Repository) : Type 0 where
  pub front : List NamedConfig
  pub whole : all ≡ front ++ rest
  pub begun_so : repositories ≡ map begun front

pub begun_none : (all : List NamedConfig) → AreBegun all all []
begun_none all = record { front = []; whole = refl; begun_so = refl }

pub begun_more : (all rest : List NamedConfig) (one : NamedConfig) (before after : List Repository) → AreBegun all (one ∷ rest) before → after ≡ before ++ begun one ∷ [] → AreBegun all rest after
begun_more all rest one before after so_far is = record {
  front = so_far.front ++ one ∷ [];
  whole = so_far.whole ∙ join_entry so_far.front rest one;
  begun_so = is ∙ ap (λ (rs : List Repository). rs ++ begun one ∷ []) so_far.begun_so ∙ sym (map_begun so_far.front one);
}

all_front : (front : List NamedConfig) → front ++ [] ≡ front
all_front [] = refl
all_front (x ∷ front) = ap (λ (hs : List NamedConfig). x ∷ hs) (all_front front)

pub begun_all : (all rest : List NamedConfig) (repositories : List Repository) → AreBegun all rest repositories → rest ≡ [] → repositories ≡ map begun all
begun_all all rest repositories so_far none =
    so_far.begun_so ∙ ap (map begun) (sym (so_far.whole ∙ ap (λ (hs : List NamedConfig). so_far.front ++ hs) none ∙ all_front so_far.front))
