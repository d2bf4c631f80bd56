-- What stands of a state whose open lists are all ended.
use Rattle.std.proofs.Common.{ℕ, ℤ, ◌≤◌, List, [], ◌∷◌, refl}
use Rattle.std.specs.List.{AllByRecursion}
use Rattle.oai_item.specs.Item.{ItemState}
use Rattle.oai_lists.specs.declared.lists.TheConstants.{LAST_NUMBER}
use Rattle.oai_settings.specs.Config.{IsConfig, RepositoryConfig}
use Rattle.oai_repo.specs.Saved.{ended}
use Rattle.oai_repo.specs.State.{RepoState, empty_state, moved}
use Rattle.oai_laws.specs.Effects.{IsSound}
use Rattle.oai_laws.specs.Eras.{AreFollowed, Era, HaveNumbers, left_behind, left_by_era, runs}
use Rattle.oai_laws.specs.Runs.{Timed, performed}
use Rattle.oai_laws.proofs.ChainLemmas.{chain_followed}
use Rattle.oai_laws.proofs.EffectLemmas.{sound_act, sound_empty, sound_moved}
use Rattle.oai_laws.proofs.SelectingLemmas.{IsTimed, timed_act, timed_empty, timed_moved}
use Rattle.oai_laws.proofs.SinceLemmas.{IsAfter}

pub sound_ended : (config : RepositoryConfig) (raise : ℕ) (state : RepoState) → (ended raise state).open_lists.next ≤ LAST_NUMBER → IsSound config state → IsSound config (ended raise state)
sound_ended config raise state few sound = record { kept = sound.kept; live = sound.live; given = refl; formed = refl; known = refl; few = few }

pub timed_ended : (config : RepositoryConfig) (raise : ℕ) (state : RepoState) → IsTimed config state → IsTimed config (ended raise state)
timed_ended config raise state timed = record { years = timed.years; begun = timed.begun; dated = timed.dated }

pub after_ended : (config : RepositoryConfig) (clock : ℤ) (old : List ItemState) (raise : ℕ) (state : RepoState) → (ended raise state).open_lists.next ≤ LAST_NUMBER → IsAfter config clock old state
    → IsAfter config clock old (ended raise state)
after_ended config clock old raise state few after =
    record { sound = sound_ended config raise state few after.sound; writable = after.writable; later = after.later; since = after.since }

-- a state that a repository comes to
pub record IsStanding (config : RepositoryConfig) (state : RepoState) : Type 0 where
  pub sound : IsSound config state
  pub timed : IsTimed config state

pub standing_empty : (config : RepositoryConfig) → IsConfig config → IsStanding config (empty_state config)
standing_empty config good = record { sound = sound_empty config; timed = timed_empty config good }

pub standing_ended : (config : RepositoryConfig) (raise : ℕ) (state : RepoState) → (ended raise state).open_lists.next ≤ LAST_NUMBER → IsStanding config state → IsStanding config (ended raise state)
standing_ended config raise state few standing = record { sound = sound_ended config raise state few standing.sound; timed = timed_ended config raise state standing.timed }

pub standing_behind : (config : RepositoryConfig) (state : RepoState) (commands : List Timed) → IsConfig config → IsStanding config state → IsStanding config (left_behind config state commands)
standing_behind config state [] good standing = standing
standing_behind config state (timed ∷ commands) good standing =
    let found = sound_moved config timed.moment state standing.sound in
    standing_behind config (performed config state timed).left commands good
    (record {
      sound = sound_act config (moved timed.moment state) timed.command found;
      timed = timed_act config (moved timed.moment state) timed.command good found (timed_moved config timed.moment state standing.timed);
    })

-- ---- over eras

pub standing_by : (config : RepositoryConfig) (state : RepoState) (era : Era) → IsConfig config → (ended era.raise state).open_lists.next ≤ LAST_NUMBER → IsStanding config state → IsStanding config (left_by_era config state era)
standing_by config state era good few standing = standing_behind config (ended era.raise state) era.commands good (standing_ended config era.raise state few standing)

-- each list that is followed within an era
pub followed_within : (config : RepositoryConfig) (state : RepoState) (eras : List Era) → IsConfig config → IsStanding config state → HaveNumbers config state eras → AllByRecursion (AreFollowed config) (runs config state eras)
followed_within config state [] good standing numbers = tt
followed_within config state (era ∷ eras) good standing numbers = (
  (λ list_request first others chain.
      chain_followed config era.commands (ended era.raise state) list_request first others good (sound_ended config era.raise state numbers.0 standing.sound) chain),
  followed_within config (left_by_era config state era) eras good (standing_by config state era good numbers.0 standing) numbers.1,
)
