-- What one repository answers in the course of time. This repository's own.
use Rattle.std.specs.Prelude.{◌≡◌, ◌⊎◌, ℕ, ℤ, Bool, true, ◌&&◌, not, nat_lt, List, [], ◌∷◌, filter, map}
use Rattle.std.specs.List.{flat_map, list_all}
use Rattle.oai_names.specs.Names.{is_one_of}
use Rattle.oai_settings.specs.Config.{RepositoryConfig}
use Rattle.oai_repo.specs.Machine.{Command, Outcome, act_at}
use Rattle.oai_repo.specs.State.{FrozenList, OpenLists, RepoState, moved}

-- a command and the moment at which it comes, in seconds from 1970 on: any moment, also one before those of earlier
-- commands
pub record Timed : Type 0 where
  pub moment : ℤ
  pub command : Command

-- a command that was performed: the state that it found, the clock moved; its answer; and the state that it left
pub record Transition : Type 0 where
  pub found : RepoState
  pub command : Command
  pub outcome : Outcome
  pub left : RepoState

-- a command, performed in that state
abbrev pub performed : RepositoryConfig → RepoState → Timed → Transition
performed config state timed =
    let done = act_at config state timed.moment timed.command in
    record { found = moved timed.moment state; command = timed.command; outcome = done.0; left = done.1 }

-- commands, performed one after the other, the first in that state
abbrev pub run : RepositoryConfig → RepoState → List Timed → List Transition
run config state [] = []
run config state (timed ∷ commands) =
    let exchange = performed config state timed in exchange ∷ run config exchange.left commands

-- the first list is the second, or the second without some of its members
abbrev pub IsPart : {A : Type 0} → List A → List A → Type 0
IsPart some [] = some ≡ []
IsPart some (x ∷ whole) = IsPart some whole ⊎ ((others : List _) × (some ≡ x ∷ others) × IsPart others whole)

-- it is true of each exchange
abbrev pub Throughout : (Transition → Type 0) → List Transition → Type 0
Throughout P [] = Unit {0}
Throughout P (exchange ∷ exchanges) = P exchange × Throughout P exchanges

-- ---- the numbers of lists

-- the numbers of the open lists
abbrev pub numbers_open : OpenLists → List ℕ
numbers_open open_lists = map (λ (list : FrozenList). list.number) open_lists.lists

-- the numbers that an exchange gave: of the lists that are open after it, and were not before
abbrev pub given_in : Transition → List ℕ
given_in exchange = filter (λ n. not (is_one_of (numbers_open exchange.found.open_lists) n)) (numbers_open exchange.left.open_lists)

-- the numbers that were given, one after the other
abbrev pub numbers_given : List Transition → List ℕ
numbers_given exchanges = flat_map given_in exchanges

-- each number is below every later one
abbrev pub numbers_rise_strictly : List ℕ → Bool
numbers_rise_strictly [] = true
numbers_rise_strictly (n ∷ numbers) = list_all (nat_lt n) numbers && numbers_rise_strictly numbers

-- each number is below 18446744073709551615
abbrev pub are_never_last : List ℕ → Bool
are_never_last numbers = list_all (λ n. nat_lt n 18_446_744_073_709_551_615) numbers
