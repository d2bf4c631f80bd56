-- An exchange among those of eras, and what becomes of the items behind it.
use Rattle.std.proofs.Common.{◌≡◌, inl, inr, ℤ, List, [], ◌∷◌, ◌++◌, refl, sym, subst}
use Rattle.oai_item.specs.Item.{ItemState}
use Rattle.oai_item.specs.declared.deleted_record.DeletedRecord.TheVariants.{Persistent}
use Rattle.oai_settings.specs.Config.{RepositoryConfig}
use Rattle.oai_repo.specs.Machine.{act}
use Rattle.oai_repo.specs.Saved.{ended}
use Rattle.oai_repo.specs.State.{RepoState, moved}
use Rattle.oai_laws.specs.Eras.{Era, HaveNumbers, all_exchanges, left_behind, runs}
use Rattle.oai_laws.specs.Runs.{IsPart, Timed, Transition, performed, run}
use Rattle.oai_laws.proofs.EndedLemmas.{after_ended}
use Rattle.oai_laws.proofs.SinceLemmas.{IsAfter, after_act, after_itself, after_moved}

-- the exchanges of commands, and of the eras behind them
abbrev pub all_from : RepositoryConfig → RepoState → List Timed → List Era → List Transition
all_from config state commands eras = run config state commands ++ all_exchanges (runs config (left_behind config state commands) eras)

-- what is known of one that is found behind such a state, with others behind it, in its era or in later ones
pub record IsReached (config : RepositoryConfig) (clock : ℤ) (old : List ItemState) (exchange : Transition) (others : List Transition) : Type 0 where
  pub commands : List Timed
  pub eras : List Era
  pub found : IsAfter config clock old exchange.found
  pub told : exchange.outcome ≡ (act config exchange.found exchange.command).0
  pub left : exchange.left ≡ (act config exchange.found exchange.command).1
  pub numbers : HaveNumbers config (left_behind config exchange.left commands) eras
  pub behind : IsPart others (all_from config exchange.left commands eras)

here : (config : RepositoryConfig) (clock : ℤ) (old : List ItemState) (state : RepoState) (timed : Timed) (commands : List Timed) (eras : List Era) (others : List Transition) → IsAfter config clock old state
    → HaveNumbers config (left_behind config (performed config state timed).left commands) eras
    → IsPart others (all_from config (performed config state timed).left commands eras) → IsReached config clock old (performed config state timed) others
here config clock old state timed commands eras others after numbers part = record {
  commands = commands;
  eras = eras;
  found = after_moved config clock old timed.moment state after;
  told = refl;
  left = refl;
  numbers = numbers;
  behind = part;
}

pub reached : (config : RepositoryConfig) (clock : ℤ) (old : List ItemState) (state : RepoState) (commands : List Timed) (eras : List Era) (exchange : Transition) (others : List Transition) → config.deleted ≡ Persistent
    → IsAfter config clock old state → HaveNumbers config (left_behind config state commands) eras → IsPart (exchange ∷ others) (all_from config state commands eras) → IsReached config clock old exchange others
reached config clock old state [] [] exchange others persistent after numbers part = cc
reached config clock old state [] (era ∷ eras) exchange others persistent after numbers part =
    reached config clock old (ended era.raise state) era.commands eras exchange others persistent (after_ended config clock old era.raise state numbers.0 after) numbers.1 part
reached config clock old state (timed ∷ commands) eras exchange others persistent after numbers (inl part) =
    reached config clock old (performed config state timed).left commands eras exchange others persistent
    (after_act config clock old (moved timed.moment state) timed.command persistent (after_moved config clock old timed.moment state after)) numbers part
reached config clock old state (timed ∷ commands) eras exchange others persistent after numbers (inr found) =
    let is : exchange ∷ others ≡ performed config state timed ∷ found.0 = found.1 in
    let exchange_is : performed config state timed ≡ exchange = cc in
    let others_are : found.0 ≡ others = cc in
    subst (λ (e : Transition). IsReached config clock old e others) exchange_is
    (here config clock old state timed commands eras others after numbers (subst (λ (es : List Transition). IsPart es (all_from config (performed config state timed).left commands eras)) others_are found.2))

-- what becomes of its items behind it
pub left_after : (config : RepositoryConfig) (clock : ℤ) (old : List ItemState) (exchange : Transition) (others : List Transition) → config.deleted ≡ Persistent → IsReached config clock old exchange others
    → IsAfter config exchange.found.clock exchange.found.holdings.items exchange.left
left_after config clock old exchange others persistent reached =
    subst (IsAfter config exchange.found.clock exchange.found.holdings.items) (sym reached.left)
    (after_act config exchange.found.clock exchange.found.holdings.items exchange.found exchange.command persistent (after_itself config exchange.found reached.found.sound reached.found.writable))
