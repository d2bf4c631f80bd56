-- Where the path of an exchange leads among the repositories of a host: words that no definition needs.
use Rattle.std.specs.Prelude.{◌≡◌, ℕ, false, List, ◌++◌, Some}
use Rattle.std.specs.List.{AllByRecursion, slice_get}
use Rattle.oai_http.specs.Targets.{front_of, leads_to_repository, path_of}
use Rattle.oai_host.specs.declared.repositories.NamedRepo.{NamedRepo}
use Rattle.oai_http.specs.declared.targets.Endpoint.{Endpoint}

-- the path of the exchange is of that endpoint and ends with the name of the repository at the position
pub record IsRepoPlace (repos : List NamedRepo) (place : ℕ) (endpoint : Endpoint) (target : List ℕ) : Type 0 where
  pub one : NamedRepo
  pub there : slice_get repos place ≡ Some one
  pub path : path_of target ≡ front_of endpoint ++ one.name

-- the path of the target is no repository's
abbrev pub LeadsNowhere : List NamedRepo → List ℕ → Type 0
LeadsNowhere repos target = AllByRecursion (λ (one : NamedRepo). leads_to_repository one.name target ≡ false) repos
