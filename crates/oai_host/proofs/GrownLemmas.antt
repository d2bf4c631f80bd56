-- An exchange only adds sets, over every store.
use Rattle.std.proofs.Common.{◌≡◌, ◌∙◌, ◌⊎◌, ℕ, ℤ, Bool, IsTrue, OnErr, OnOk, Option, None, inl, inr, List, [], ◌∷◌, ◌++◌, append-nil, append_assoc, slice_set, take, Some, Result, Ok, Err, refl, sym, ap}
use Rattle.oai_deposit.specs.declared.changes.Change.{Change}
use Rattle.oai_deposit.specs.declared.changes.Change.TheVariants as change
use Rattle.oai_deposit.specs.Lines.{line_of}
use Rattle.oai_item.specs.declared.faults.Fault.{Fault}
use Rattle.oai_item.specs.declared.refusals.LineRefusal.{LineRefusal}
use Rattle.oai_holdings.specs.Accepted.{sets_with}
use Rattle.oai_holdings.specs.Holdings.{Holdings, NamedSet}
use Rattle.std.specs.List.{slice_get}
use Rattle.oai_catalogue.specs.Store.{VersionLists}
use Rattle.oai_repo.specs.Fields.{KeepsOthers, RepoFields, numbers_of, state_of}
use Rattle.oai_repo.specs.Saved.{SavedPartState, has_clock, has_gone, has_item, has_list, has_named_set, with_part}
use Rattle.oai_repo.specs.State.{RepoState}
use Rattle.oai_settings.specs.Config.{RepositoryConfig}
use Rattle.oai_http.specs.declared.exchanges.Answer.{Answer}
use Rattle.oai_host.specs.HostSnapshots.{AddsSets, HasChangedAt}
use Rattle.oai_host.specs.Performed.{AreLinesPerformed, HasStopped, IsDone, IsLineAnswered, IsPerformed, StoreState}
use Rattle.oai_host.specs.declared.repositories.NamedRepo.{NamedRepo}
use Rattle.oai_host.specs.Saved.{with_read}
use Rattle.oai_host.specs.Tasks.{Task, asking, depositing, refusing}

adds_same : (old new : List NamedSet) → new ≡ old → AddsSets old new
adds_same old new same = record { more = []; sets = same ∙ sym (append-nil old) }

adds_then : (old mid new : List NamedSet) → AddsSets old mid → AddsSets mid new → AddsSets old new
adds_then old mid new first second = record {
  more = first.more ++ second.more;
  sets = second.sets ∙ ap (λ (sets : List NamedSet). sets ++ second.more) first.sets ∙ append_assoc old first.more second.more;
}

change_adds : (made : Change) (old new : List NamedSet) → new ≡ sets_with made old → AddsSets old new
change_adds (change.Deposit identifier sets records) old new is = adds_same old new is
change_adds (change.Put identifier sets records) old new is = adds_same old new is
change_adds (change.Delete identifier) old new is = adds_same old new is
change_adds (change.Purge before) old new is = adds_same old new is
change_adds (change.AddSet spec name) old new is = record { more = (spec, name) ∷ []; sets = is }

line_adds : (config : RepositoryConfig) (moment : ℤ) (read : Result Change LineRefusal) (before : RepoState) (line : List ℕ) (after : RepoState) → IsLineAnswered config moment read before line after
    → AddsSets before.holdings.sets after.holdings.sets
line_adds config moment (Ok made) before line after (inl accepted) = change_adds made before.holdings.sets after.holdings.sets accepted.sets
line_adds config moment (Ok made) before line after (inr refused) = adds_same before.holdings.sets after.holdings.sets (ap (λ (state : RepoState). state.holdings.sets) refused.1.state)
line_adds config moment (Err cause) before line after refused = adds_same before.holdings.sets after.holdings.sets (ap (λ (state : RepoState). state.holdings.sets) refused.state)

lines_add : (honest : Bool) (config : RepositoryConfig) (moment : ℤ) (lines : List (List ℕ)) (before : RepoState) (told : List ℕ) (after : RepoState)
    → AreLinesPerformed honest config moment lines before told after → AddsSets before.holdings.sets after.holdings.sets
lines_add honest config moment [] before told after done = adds_same before.holdings.sets after.holdings.sets (ap (λ (state : RepoState). state.holdings.sets) done.1)
lines_add honest config moment (text ∷ lines) before told after done =
    adds_then before.holdings.sets done.2.holdings.sets after.holdings.sets
    (line_adds config moment (line_of config.forms text) before done.0 done.2 done.4.so)
    (lines_add honest config moment lines done.2 done.1 after done.5)

done_adds : (honest : Bool) (config : RepositoryConfig) (moment : ℤ) (task : Task) (before : RepoState) (answer : Answer) (after : RepoState) → IsDone honest config moment task before answer after
    → AddsSets before.holdings.sets after.holdings.sets
done_adds honest config moment (refusing status) before answer after done = adds_same before.holdings.sets after.holdings.sets (ap (λ (state : RepoState). state.holdings.sets) done.1)
done_adds honest config moment (asking arguments) before answer after done = adds_same before.holdings.sets after.holdings.sets (ap (λ (holdings : Holdings). holdings.sets) done.holdings)
done_adds honest config moment (depositing lines) before answer after done = lines_add honest config moment lines before answer.body after done.1

stopped_adds : (honest : Bool) (config : RepositoryConfig) (moment : ℤ) (task : Task) (fault : Fault) (before : RepoState) (answer : Answer) (after : RepoState)
    → HasStopped honest config moment task fault before answer after → AddsSets before.holdings.sets after.holdings.sets
stopped_adds honest config moment (refusing status) fault before answer after stopped = absurd stopped
stopped_adds honest config moment (asking arguments) fault before answer after stopped = adds_same before.holdings.sets after.holdings.sets (ap (λ (state : RepoState). state.holdings.sets) stopped.1)
stopped_adds honest config moment (depositing lines) fault before answer after stopped = lines_add honest config moment (take stopped.0 lines) before stopped.3 after stopped.4

pub performed_adds : (config : RepositoryConfig) (moment : ℤ) (task : Task) (answer : Answer) (before : RepoState) (old : StoreState) (after : RepoState) (new : StoreState)
    → IsPerformed config moment task answer before old after new → AddsSets before.holdings.sets after.holdings.sets
performed_adds config moment task answer before old after new performed = either performed.ended
  where
    either : IsDone old.honest config moment task before answer after ⊎ ((fault : Fault) × HasStopped old.honest config moment task fault before answer after) → AddsSets before.holdings.sets after.holdings.sets
    either (inl done) = done_adds old.honest config moment task before answer after done
    either (inr stopped) = stopped_adds old.honest config moment task stopped.0 before answer after stopped.1

-- ---- a part that is restored

part_adds : (state : RepoState) (part : SavedPartState) (new : List NamedSet) → new ≡ (with_part state part).holdings.sets → AddsSets state.holdings.sets new
part_adds state (has_clock clock next) new is = adds_same state.holdings.sets new is
part_adds state (has_named_set set) new is = record { more = set ∷ []; sets = is }
part_adds state (has_item item) new is = adds_same state.holdings.sets new is
part_adds state (has_gone identifier) new is = adds_same state.holdings.sets new is
part_adds state (has_list list) new is = adds_same state.holdings.sets new is

read_adds : (state : RepoState) (part : Option SavedPartState) (new : List NamedSet) → new ≡ (with_read state part).holdings.sets → AddsSets state.holdings.sets new
read_adds state None new is = adds_same state.holdings.sets new is
read_adds state (Some part) new is = part_adds state part new is

pub restored_adds : (honest : Bool) (part : Option SavedPartState) (result : Result (Unit {0}) Fault) (old : RepoFields) (before : VersionLists) (new : RepoFields) (after : VersionLists) → IsTrue honest
    → OnOk result (IsTrue honest → state_of new after ≡ with_read (state_of old before) part) → OnErr result ((new ≡ old) × (after ≡ before)) → AddsSets old.sets new.sets
restored_adds honest part (Ok _) old before new after sure state same = read_adds (state_of old before) part new.sets (ap (λ (s : RepoState). s.holdings.sets) (state sure))
restored_adds honest part (Err fault) old before new after sure state same = adds_same old.sets new.sets (ap (λ (repo : RepoFields). repo.sets) same.0)

-- ---- at a host

-- so the repository at a place has changed
pub changed_at : (repos : List NamedRepo) (place : ℕ) (one : NamedRepo) (new : RepoFields) (before after : VersionLists) → slice_get repos place ≡ Some one → AddsSets one.repo.sets new.sets
    → KeepsOthers (numbers_of one.repo) before (numbers_of new) after → HasChangedAt place repos before (slice_set repos place (record { name = one.name; repo = new })) after
changed_at repos place one new before after there added keeps = record {
  one = one;
  changed = record { name = one.name; repo = new };
  there = there;
  set = refl;
  grown = record { name = refl; added = added };
  keeps = keeps;
}
