-- What a host keeps of its repositories, and what its store's lists hold of them: this repository's own.
use Rattle.std.specs.Prelude.{◌≡◌, ℕ, Bool, true, false, List, [], ◌∷◌, map, Option, IsTrue}
use Rattle.std.specs.List.{AllByRecursion, position}
use Rattle.std.specs.Str.{bytes_eq}
use Rattle.oai_catalogue.specs.Store.{VersionLists}
use Rattle.oai_repo.specs.Fields.{RepoFields, IsStored, HasNumbersIn, has, numbers_of, state_of}
use Rattle.oai_config.specs.Configs.{AreNamed}
use Rattle.oai_host.specs.Hosts.{Repository}
use Rattle.oai_host.specs.declared.repositories.NamedRepo.{NamedRepo}

-- the repository that it stands for
abbrev pub repository_of : VersionLists → NamedRepo → Repository
repository_of lists repos = record { name = repos.name; config = repos.repo.config; state = state_of repos.repo lists }

abbrev pub repositories_of : List NamedRepo → VersionLists → List Repository
repositories_of repos lists = map (repository_of lists) repos

abbrev pub repo_names : List NamedRepo → List (List ℕ)
repo_names repos = map (λ (one : NamedRepo). one.name) repos

-- the position of a name among these, if it is there
abbrev pub place_in : List (List ℕ) → List ℕ → Option ℕ
place_in names name = position (λ (one : List ℕ). bytes_eq one name) names

-- they have no number in common
abbrev pub AreApart : RepoFields → RepoFields → Type 0
AreApart one other = (n : ℕ) → has (numbers_of one) n ≡ true → has (numbers_of other) n ≡ false

-- it has no number in common with any of the others
abbrev pub IsApart : RepoFields → List NamedRepo → Type 0
IsApart one others = AllByRecursion (λ (other : NamedRepo). AreApart one other.repo) others

abbrev pub AllApart : List NamedRepo → Type 0
AllApart [] = Unit {0}
AllApart (one ∷ others) = IsApart one.repo others × AllApart others

-- the lists hold of each what they must of a repository
abbrev pub AllStand : List NamedRepo → VersionLists → Type 0
AllStand repos lists = AllByRecursion (λ (one : NamedRepo). HasNumbersIn one.repo lists) repos

abbrev pub AllHeld : List NamedRepo → VersionLists → Type 0
AllHeld repos lists = AllByRecursion (λ (one : NamedRepo). IsStored one.repo lists) repos

-- names are distinct, and no two repositories have a number in common
pub record AreNamedRepos (honest : Bool) (repos : List NamedRepo) (lists : VersionLists) : Type 0 where
  pub named : AreNamed (repo_names repos)
  pub stand : AllStand repos lists
  pub held : IsTrue honest → AllHeld repos lists
  pub apart : AllApart repos

-- the lists of a store are what a host keeps of these repositories
pub record StandFor (honest : Bool) (lists : VersionLists) (repositories : List Repository) : Type 0 where
  pub repos : List NamedRepo
  pub kept : AreNamedRepos honest repos lists
  pub whole : repositories ≡ repositories_of repos lists
