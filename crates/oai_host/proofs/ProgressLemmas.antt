-- The lines of a deposit, performed one after the other over a store, with their answers or without.
use Rattle.std.proofs.Common.{◌≡◌, ◌∙◌, ◌≤◌, ◌∷◌, ◌+◌, ◌++◌, [], inl, inr, ℕ, ℤ, Bool, List, Some, Result, Ok, Err, refl, subst, arith}
use Rattle.oai_catalogue.specs.Store.{NeedsRoom}
use Rattle.oai_catalogue.specs.declared.versions.Versions.{Ghosts}
use Rattle.oai_deposit.specs.Lines.{line_of}
use Rattle.oai_deposit.specs.declared.changes.Change.{Change}
use Rattle.oai_http.specs.Answers.{answered_with, failed}
use Rattle.oai_item.specs.declared.faults.Fault.{Fault}
use Rattle.oai_item.specs.declared.refusals.LineRefusal.{LineRefusal}
use Rattle.oai_repo.specs.Fields.{Keeps, Owns, RepoFields, state_of}
use Rattle.oai_settings.specs.Config.{RepositoryConfig}
use Rattle.oai_host.specs.DepositLines.{outcome_line}
use Rattle.oai_host.specs.Exchanged.{AnswersLine, PerformsIn, PerformsLine}
use Rattle.oai_host.specs.Performed.{IsLinePerformed}
use Rattle.oai_host.specs.Room.{room_for_line, room_for_lines}
use Rattle.oai_host.specs.Tasks.{depositing}
use Rattle.oai_host.specs.declared.deposits.LineOutcome.{LineOutcome}
use Rattle.oai_host.proofs.DepositLemmas.{AreDone, all_done, kept_on, line_failed, none_done, one_done}
use Rattle.oai_host.proofs.FaultLemmas.{counted_since, honest_since}
use Rattle.oai_host.proofs.RoomLemmas.{fault_told, room_done, room_failed, room_on}

-- ---- one line

-- its answer is what it came to
pub line_answered : {V : Type 0} (g : Ghosts V) (moment : ℤ) (read : Result Change LineRefusal) (outcome : LineOutcome) (old : RepoFields) (before : V) (new : RepoFields) (after : V) (was : List ℕ)
    → PerformsLine g moment read (Ok outcome) old before new after → AnswersLine g moment read (Ok tt) old before was new after (was ++ outcome_line old.config.granularity outcome)
line_answered g moment read outcome old before new after was line = record {
  ok = record { text = outcome_line old.config.granularity outcome; told = refl; line = line.ok };
  err = tt;
  kept = line.kept;
  store = record {
    room = record { enough = tt; used = line.store.room.used };
    device = record { count = line.store.device.count; device = tt };
    honesty = record { same = line.store.honesty.same; damaged = tt };
  };
}

-- one that failed has none
pub line_unanswered : {V : Type 0} (g : Ghosts V) (moment : ℤ) (read : Result Change LineRefusal) (fault : Fault) (old : RepoFields) (before : V) (new : RepoFields) (after : V) (was is : List ℕ)
    → PerformsLine g moment read (Err fault) old before new after → AnswersLine g moment read (Err fault) old before was new after is
line_unanswered g moment read fault old before new after was is line = record {
  ok = tt;
  err = line.err;
  kept = line.kept;
  store = record {
    room = record { enough = line.store.room.enough; used = line.store.room.used };
    device = record { count = line.store.device.count; device = line.store.device.device };
    honesty = record { same = line.store.honesty.same; damaged = line.store.honesty.damaged };
  };
}

-- ---- one line after the other

-- what was done so far of the lines, and what is left of them
pub record AreDoneIn {V : Type 0} (g : Ghosts V) (moment : ℤ) (old : RepoFields) (before : V) (all left : List (List ℕ)) (told : List ℕ) (done : ℕ) (new : RepoFields) (after : V) : Type 0 where
  pub lines : AreDone (g.honest before) old (g.lists before) moment all left told done new (g.lists after)
  pub room : g.room before + room_for_lines old.config left ≤ g.room after + room_for_lines old.config all
  pub count : g.failures before ≤ g.failures after
  pub honesty : g.honest after ≡ g.honest before

pub none_done_in : {V : Type 0} (g : Ghosts V) (moment : ℤ) (old : RepoFields) (before : V) (all : List (List ℕ)) → Owns (g.honest before) old (g.lists before) → AreDoneIn g moment old before all all [] 0 old before
none_done_in g moment old before all owns = record {
  lines = none_done (g.honest before) old (g.lists before) moment all owns.stands owns.held;
  room = omega arith;
  count = omega arith;
  honesty = refl;
}

module _ {V : Type 0} (g : Ghosts V) (moment : ℤ) (old mid : RepoFields) (before between : V) (all left : List (List ℕ)) (text told : List ℕ) (done : ℕ)
    (so_far : AreDoneIn g moment old before all (text ∷ left) told done mid between) (new : RepoFields) (after : V) (is : List ℕ) where
  -- one line more was done
  pub one_on : AnswersLine g moment (line_of mid.config.forms text) (Ok tt) mid between told new after is → AreDoneIn g moment old before all left is (done + 1) new after
  one_on answered =
      let same = so_far.honesty in
      let line = subst (λ (honest : Bool). IsLinePerformed honest mid.config moment (line_of mid.config.forms text) (state_of mid (g.lists between)) answered.ok.text (state_of new (g.lists after))) same answered.ok.line in
      let kept = subst (λ (honest : Bool). Keeps honest mid (g.lists between) new (g.lists after)) same answered.kept in
      let used : g.room between ≤ g.room after + room_for_line old.config (line_of old.config.forms text) =
      subst (λ (config : RepositoryConfig). g.room between ≤ g.room after + room_for_line config (line_of config.forms text)) so_far.lines.kept.config answered.store.room.used
      in
      let count = so_far.count in
      let counted = answered.store.device.count in record {
        lines = one_done (g.honest before) old mid new (g.lists before) (g.lists between) (g.lists after) moment all left text told answered.ok.text is done so_far.lines answered.ok.told line kept;
        room = room_on old.config text left all (g.room before) (g.room between) (g.room after) so_far.room used;
        count = omega (arith, count, counted);
        honesty = answered.store.honesty.same ∙ same;
      }

  -- a fault ended them
  pub ended_by : (fault : Fault) → AnswersLine g moment (line_of mid.config.forms text) (Err fault) mid between told new after is
      → PerformsIn g moment (depositing all) (failed fault (Some done)) old before new after
  ended_by fault answered =
      let same = so_far.honesty in
      let kept = subst (λ (honest : Bool). Keeps honest mid (g.lists between) new (g.lists after)) same answered.kept in
      let need : NeedsRoom {A = Unit {0}} (room_for_line old.config (line_of old.config.forms text)) (Err fault) (g.room between) (g.room after) =
      subst (λ (config : RepositoryConfig). NeedsRoom {A = Unit {0}} (room_for_line config (line_of config.forms text)) (Err fault) (g.room between) (g.room after)) so_far.lines.kept.config answered.store.room
      in
      let told_so = fault_told fault (Some done) in record {
        performed = record {
          ended = inr (
            fault,
            rw (answered.err.0, answered.err.1) (line_failed (g.honest before) old mid (g.lists before) (g.lists between) moment all left text told done fault so_far.lines),
          );
          room = room_failed old.config text left all (g.room before) (g.room between) (g.room after) done fault so_far.room need;
          device = rw told_so (counted_since (Err fault) (g.failures before) (g.failures between) (g.failures after) so_far.count answered.store.device);
          honesty = rw told_so (honest_since (Err fault) (g.honest before) (g.honest between) (g.honest after) same answered.store.honesty);
        };
        kept = kept_on (g.honest before) old mid new (g.lists before) (g.lists between) (g.lists after) so_far.lines.kept kept;
      }

-- all were done
pub all_done_in : {V : Type 0} (g : Ghosts V) (moment : ℤ) (old new : RepoFields) (before after : V) (all left : List (List ℕ)) (told : List ℕ) (done : ℕ) → AreDoneIn g moment old before all left told done new after → left ≡ []
    → PerformsIn g moment (depositing all) (answered_with told) old before new after
all_done_in g moment old new before after all left told done so_far none = record {
  performed = record {
    ended = inl (all_done (g.honest before) old new (g.lists before) (g.lists after) moment all left told done so_far.lines none);
    room = room_done old.config all left (g.room before) (g.room after) none so_far.room;
    device = record { count = so_far.count; device = tt };
    honesty = record { same = so_far.honesty; damaged = tt };
  };
  kept = so_far.lines.kept;
}
