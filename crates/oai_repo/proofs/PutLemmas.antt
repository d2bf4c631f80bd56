-- A put behind the same put, and beside the deposit of the same.
use Rattle.std.proofs.Common.{◌≡◌, ◌∙◌, ℕ, ℤ, List, map, Option, None, Some, refl, ap}
use Rattle.oai_item.specs.Givens.{GivenRecord, kept}
use Rattle.oai_item.specs.Item.{live_item}
use Rattle.oai_item.specs.Membership.{reduced}
use Rattle.oai_item.specs.declared.refusals.ChangeRefusal.{ChangeRefusal}
use Rattle.oai_deposit.specs.declared.changes.Change.{Change}
use Rattle.oai_deposit.specs.declared.changes.Change.TheVariants as change
use Rattle.oai_settings.specs.Config.{RepositoryConfig}
use Rattle.oai_holdings.specs.Changes.{changed, deposit_cause, refusal_of, stamp_at, told_stamp}
use Rattle.oai_holdings.specs.Holdings.{Holdings}
use Rattle.oai_repo.specs.Machine.{Outcome, accepted, act, act_on_change, changing}
use Rattle.oai_repo.specs.Puts.{AreAlikeButForStamps}
use Rattle.oai_repo.specs.State.{RepoState, moved}
use Rattle.oai_holdings.proofs.PutLemmas.{alike, is_again}

twice_by : (config : RepositoryConfig) (state : RepoState) (next : ℤ) (identifier : List ℕ) (sets : List (List ℕ)) (records : List GivenRecord) (refusal : Option ChangeRefusal)
    → refusal_of config (stamp_at config state.clock) state.holdings (change.Put identifier sets records) ≡ refusal
    → (let once = act_on_change config state (stamp_at config state.clock) (change.Put identifier sets records) refusal in
    act config (moved next once.1) (changing (change.Put identifier sets records)) ≡ (once.0, moved next once.1))
unfolding act
twice_by config state next identifier sets records (Some cause) is =
    let later : RepoState = moved next state in
    let again = is_again config (stamp_at config state.clock) (stamp_at config later.clock) identifier sets records state.holdings in
    ap (act_on_change config later (stamp_at config later.clock) (change.Put identifier sets records)) (again.refused ∙ is)
twice_by config state next identifier sets records None is =
    let asked : Change = change.Put identifier sets records in
    let stamp : ℤ = stamp_at config state.clock in
    let new : Holdings = changed config stamp state.holdings asked in
    let later : RepoState = moved next (record state { holdings = new }) in
    let other : ℤ = stamp_at config later.clock in
    let again = is_again config stamp other identifier sets records state.holdings in
    let told : ℤ → Holdings → Outcome × RepoState = λ t holdings. (accepted t, record later { holdings = holdings }) in
    ap (act_on_change config later other asked) (again.none is)
    ∙ ap (λ (holdings : Holdings). told (told_stamp other asked holdings.items) holdings) again.stays
    ∙ ap (λ (t : ℤ). told t new) again.told

pub put_twice : (config : RepositoryConfig) (state : RepoState) (next : ℤ) (identifier : List ℕ) (sets : List (List ℕ)) (records : List GivenRecord)
    → (let once = act config state (changing (change.Put identifier sets records)) in
    act config (moved next once.1) (changing (change.Put identifier sets records)) ≡ (once.0, moved next once.1))
unfolding act
put_twice config state next identifier sets records =
    twice_by config state next identifier sets records (refusal_of config (stamp_at config state.clock) state.holdings (change.Put identifier sets records)) refl

pub put_alike : (config : RepositoryConfig) (state : RepoState) (identifier : List ℕ) (sets : List (List ℕ)) (records : List GivenRecord)
    → AreAlikeButForStamps (act config state (changing (change.Put identifier sets records))).1 (act config state (changing (change.Deposit identifier sets records))).1
unfolding act refusal_of changed
put_alike config state identifier sets records =
    by_refusal (deposit_cause config state.holdings sets records (live_item identifier (stamp_at config state.clock) (reduced sets) (map kept records)))
  where
    by_refusal : (refusal : Option ChangeRefusal)
        → AreAlikeButForStamps (act_on_change config state (stamp_at config state.clock) (change.Put identifier sets records) refusal).1
        (act_on_change config state (stamp_at config state.clock) (change.Deposit identifier sets records) refusal).1
    by_refusal (Some cause) = record { clock = refl; open_lists = refl; sets = refl; items = λ q. refl }
    by_refusal None = record {
      clock = refl;
      open_lists = refl;
      sets = refl;
      items = λ q. alike identifier (stamp_at config state.clock) (reduced sets) (map kept records) state.holdings.items q;
    }
