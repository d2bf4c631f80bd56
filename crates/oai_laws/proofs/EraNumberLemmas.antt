-- The numbers of lists rise over all eras, since the next one never falls between them: each is given once.
use Rattle.std.proofs.Common.{◌≡◌, ℕ, ◌≤◌, true, List, [], ◌∷◌, ◌++◌, refl, sym, subst, arith}
use Rattle.std.specs.Prelude.{nat_le}
use Rattle.std.specs.List.{list_all}
use Rattle.std.proofs.lemmas.Bool.{and_from, and_parts, leb-true, le-leb}
use Rattle.std.proofs.lemmas.List.Concat.{flat_map-append}
use Rattle.oai_settings.specs.Config.{RepositoryConfig}
use Rattle.oai_repo.specs.Saved.{ended}
use Rattle.oai_repo.specs.State.{RepoState, empty_state}
use Rattle.oai_laws.specs.Effects.{IsSound}
use Rattle.oai_laws.specs.Eras.{Era, HaveNumbers, all_exchanges, left_by_era, runs}
use Rattle.oai_laws.specs.Runs.{Transition, given_in, numbers_given, numbers_rise_strictly, run}
use Rattle.oai_laws.proofs.EffectLemmas.{sound_empty}
use Rattle.oai_laws.proofs.EndedLemmas.{sound_ended}
use Rattle.oai_laws.proofs.EraTokenLemmas.{sound_left}
use Rattle.oai_laws.proofs.GivenLemmas.{AreGiven, given_then, none_are_given}

above_lower : (low next : ℕ) (numbers : List ℕ) → low ≤ next → list_all (nat_le next) numbers ≡ true → list_all (nat_le low) numbers ≡ true
above_lower low next [] under h = refl
above_lower low next (n ∷ numbers) under h =
    let parts = and_parts (nat_le next n) (list_all (nat_le next) numbers) h in
    let above : next ≤ n = leb-true next n parts.0 in
    and_from (nat_le low n) (list_all (nat_le low) numbers) (le-leb low n (omega (arith, under, above))) (above_lower low next numbers under parts.1)

given_lower : (low next : ℕ) (numbers : List ℕ) → low ≤ next → AreGiven next numbers → AreGiven low numbers
given_lower low next numbers under given = record { above = above_lower low next numbers under given.above; rising = given.rising; never_last = given.never_last }

given_over : (config : RepositoryConfig) (eras : List Era) (state : RepoState) → IsSound config state → HaveNumbers config state eras
    → AreGiven state.open_lists.next (numbers_given (all_exchanges (runs config state eras)))
given_over config [] state sound numbers = none_are_given state.open_lists.next
given_over config (era ∷ eras) state sound numbers =
    let begun : RepoState = ended era.raise state in
    let left : RepoState = left_by_era config state era in
    let sound_era = sound_ended config era.raise state numbers.0 sound in
    let own : List Transition = run config begun era.commands in
    let others : List Transition = all_exchanges (runs config left eras) in
    let given = given_then config era.commands begun (numbers_given others) sound_era (given_over config eras left (sound_left config era.commands begun sound_era) numbers.1) in
    given_lower state.open_lists.next begun.open_lists.next (numbers_given (own ++ others)) (omega arith)
    (subst (AreGiven begun.open_lists.next) (sym (flat_map-append given_in own others)) given)

pub numbers_rise_over : (config : RepositoryConfig) (eras : List Era) → HaveNumbers config (empty_state config) eras
    → numbers_rise_strictly (numbers_given (all_exchanges (runs config (empty_state config) eras))) ≡ true
numbers_rise_over config eras numbers = (given_over config eras (empty_state config) (sound_empty config) numbers).rising
