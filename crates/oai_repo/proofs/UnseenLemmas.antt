-- Lists that have ended are not seen: the clock does not go back, so a command finds the same lists open without them.
use Rattle.std.proofs.Common.{◌≡◌, ◌∙◌, ℤ, ◌≤ℤ◌, false, inl, inr, List, [], ◌∷◌, refl, ap, sym, arith}
use Rattle.std.specs.Prelude.{filter, int_lt}
use Rattle.std.proofs.lemmas.Bool.{cases_Bool, cond-false, cond-true}
use Rattle.std.proofs.lemmas.Int.{ints}
use Rattle.oai_time.specs.Clock.{tick}
use Rattle.oai_time.proofs.ClockLemmas.{tick-not_back}
use Rattle.oai_repo.specs.Machine.{Command, act, act_at}
use Rattle.oai_repo.specs.State.{FrozenList, RepoState, is_open_at, moved, state_at_clock}
use Rattle.oai_settings.specs.Config.{RepositoryConfig}

-- what has ended stays ended
ended_stays : (clock now end : ℤ) → clock ≤ℤ now → int_lt clock end ≡ false → int_lt now end ≡ false
ended_stays clock now end later h = grind (arith, ints)

-- of the lists that are open at a clock the same are open later as of all
open_later : (clock now : ℤ) → clock ≤ℤ now → (lists : List FrozenList) → filter (is_open_at now) (filter (is_open_at clock) lists) ≡ filter (is_open_at now) lists
open_later clock now later [] = refl
open_later clock now later (list ∷ lists) =
    let kept : List FrozenList = filter (is_open_at clock) lists in
    elim (cases_Bool (is_open_at clock list)) [
      | inl stands ↦
          ap (filter (is_open_at now)) (cond-true (is_open_at clock list) (list ∷ kept) kept stands)
          ∙ rw (open_later clock now later lists) refl
      | inr over ↦
          ap (filter (is_open_at now)) (cond-false (is_open_at clock list) (list ∷ kept) kept over) ∙ open_later clock now later lists
          ∙ sym (cond-false (is_open_at now list) (list ∷ filter (is_open_at now) lists) (filter (is_open_at now) lists) (ended_stays clock now list.end later over))
    ]

-- the state that a command finds is the same
pub moved_same : (moment : ℤ) (state : RepoState) → moved moment (state_at_clock state.clock state) ≡ moved moment state
moved_same moment state =
    let now : ℤ = tick state.clock moment in
    ap (λ (lists : List FrozenList). record state { clock = now; open_lists = record state.open_lists { lists = lists } })
    (open_later state.clock now (tick-not_back state.clock moment) state.open_lists.lists)

pub unseen : (config : RepositoryConfig) (state : RepoState) (moment : ℤ) (command : Command)
    → act_at config (state_at_clock state.clock state) moment command ≡ act_at config state moment command
unseen config state moment command = ap (λ (s : RepoState). act config s command) (moved_same moment state)
