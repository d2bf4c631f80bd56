-- A checkpointed handler has what the theorem of a server asks of it.
use Rattle.std.proofs.Common.{◌≡◌, ◌∙◌, inl, inr, ◌≤◌, ℕ, List, length, Option, None, IfSome, Result, Ok, Err, arith, refl, sym, ap, subst}
use Rattle.oai_http.specs.declared.handlers.SettleFault.{SettleFault}
use Rattle.oai_host.specs.Hosts.{HostState, Repository}
use Rattle.oai_journal.specs.Journals.{IsLeft}
use Rattle.oai_journal.specs.Records.{Entry}
use Rattle.oai_journal.specs.declared.journals.Journal as journal
use Rattle.oai_durable.specs.Checkpointed.{Checkpointed, IsHeldBeside, IsSettledBeside, IsSettlingSound, LeavesFirst, MayLeaveBeside, StepEnd, commits, fails_to_commit, keeps_journal, refuses, switches}
use Rattle.oai_durable.specs.Journaled.{Parts, Replaying}
use Rattle.oai_durable.specs.OnlineCheckpoints.{IsWriting, Writing}
use Rattle.oai_durable.specs.Records.{redone_all}
use Rattle.oai_durable.specs.Stood.{IsLeftLike}
use Rattle.oai_durable.proofs.BesideLemmas.{exchange_beside, held_crashed, settled_beside, unsettled_crashed}
use Rattle.oai_durable.proofs.RecordLemmas.{redone_append}
use Rattle.oai_durable.proofs.ServedLemmas.{left_less}
use Rattle.oai_durable.proofs.StandLemmas.{stand_replaced, stand_same}
use Rattle.oai_service.specs.Checkpointing.{checkpointing}
use Rattle.oai_service.specs.Hosting.{hosting, leaving}
use Rattle.oai_service.specs.Keeping.{Keeping}
use Rattle.oai_service.proofs.KeepingLemmas.{IsLeftIn, Keeps}

-- there is none of which anything is said
none_said : {A : Type 0} (P : A → Type 0) (found : Option A) → found ≡ None → IfSome found P
none_said {A} P found is = subst (λ (o : Option A). IfSome o P) (sym is) tt

-- ---- settling leaves the handler as honest as it was

step_leaves : {H J K : Type 0} (h : Replaying H) (j : journal.Ghosts J) (k : journal.Ghosts K) (emptied : h.Kept → h.Kept) (second : K → J) (before : Parts H J) (at : Option (Writing K)) (read : Parts H J)
    (result : Result (Unit {0}) SettleFault) (after : Checkpointed H J K) → StepEnd h j k emptied second before at read result after → after.parts.handler ≡ read.handler
step_leaves {H} {J} {K} h j k emptied second before at read result after (keeps_journal goes) = ap (λ (parts : Parts H J). parts.handler) goes.parts
step_leaves {H} {J} {K} h j k emptied second before at read result after (switches new) = elim new.is [
  | inl put ↦ ap (λ (parts : Parts H J). parts.handler) put.parts
  | inr doubt ↦ ap (λ (parts : Parts H J). parts.handler) doubt.parts
]

still_honest : {H J K : Type 0} (h : Replaying H) (j : journal.Ghosts J) (k : journal.Ghosts K) (emptied : h.Kept → h.Kept) (second : K → J) (before : Checkpointed H J K)
    (result : Result (Unit {0}) SettleFault) (after : Checkpointed H J K) → IsSettledBeside h j k emptied second before result after → h.is_honest after.parts.handler ≡ h.is_honest before.parts.handler
still_honest h j k emptied second before result after (commits done) =
    ap h.is_honest (step_leaves h j k emptied second done.committed before.writing done.steps.read result after done.steps.ends) ∙ done.steps.honesty ∙ ap h.is_honest done.commits.handler
still_honest h j k emptied second before result after (fails_to_commit done) = ap h.is_honest done.settled.handler
still_honest {H} {J} {K} h j k emptied second before result after (refuses fault err same) = ap (λ (state : Checkpointed H J K). h.is_honest state.parts.handler) same

-- ---- the handler of a host

module _ {H J K : Type 0} (view : H → HostState) (j : journal.Ghosts J) (k : journal.Ghosts K) (emptied : List Repository → List Repository) (second : K → J) (begun : List Repository)
    (initial : emptied begun ≡ begun) (seconds : (new : K) (entries : List Entry) (durable : ℕ) → k.holds new entries durable → j.holds (second new) entries durable)
    (of_old : (journal : J) (entries : List Entry) (durable : ℕ) (found : List Entry) → j.holds journal entries durable → j.may_leave journal found → IsLeft durable entries found)
    (of_new : (journal : K) (entries : List Entry) (durable : ℕ) (found : List Entry) → k.holds journal entries durable → k.may_leave journal found → IsLeft durable entries found) where
  abbrev KeptBeside : Keeping (Checkpointed H J K) (List Repository)
  KeptBeside = checkpointing (hosting view) j k emptied second

  abbrev HasBeside : List Entry → ℕ → Checkpointed H J K → Type 0
  HasBeside entries durable state = IsHeldBeside (hosting view) j k emptied begun state entries durable

  -- what a crash leaves of that many durable records, and of more
  left_beside : (entries : List Entry) (durable now : ℕ) (performed last : Checkpointed H J K) (left : List Entry) → durable ≤ now → IsLeftLike leaving begun entries now left
      → (view last.parts.handler).honest ≡ (view performed.parts.handler).honest
      → IsLeftIn KeptBeside (λ (state : Checkpointed H J K). view state.parts.handler) begun entries durable performed last left
  left_beside entries durable now performed last left low like honesty = record {
    found = like.found;
    leaves = left_less durable now entries like.found low like.leaves;
    stands = stand_same leaving begun like.found (length like.found) left (length left) like.stands;
    changes = honesty;
  }

  ended_beside : (entries : List Entry) (durable : ℕ) (performed last : Checkpointed H J K) (left : List Entry) → durable ≤ length entries → HasBeside entries durable performed
      → (result : Result (Unit {0}) SettleFault) (settles : IsSettledBeside (hosting view) j k emptied second performed result last)
      → IsSettlingSound (hosting view) j k emptied second performed result last settles → MayLeaveBeside j k last left
      → IsLeftIn KeptBeside (λ (state : Checkpointed H J K). view state.parts.handler) begun entries durable performed last left
  ended_beside entries durable performed last left few holds (Ok done) settles sound leaves =
      left_beside entries durable (length entries) performed last left few
      (held_crashed (hosting view) j k emptied of_old of_new begun last entries (length entries) left
      (settled_beside (hosting view) j k emptied second begun seconds initial performed last entries durable holds settles sound) leaves)
      (still_honest (hosting view) j k emptied second performed (Ok done) last settles)
  ended_beside entries durable performed last left few holds (Err fault) settles sound leaves =
      left_beside entries durable durable performed last left (omega arith)
      (unsettled_crashed (hosting view) j k emptied second of_old of_new begun initial performed last fault entries durable left few holds settles sound leaves)
      (still_honest (hosting view) j k emptied second performed (Err fault) last settles)

  pub checkpointing_keeps : Keeps (checkpointing (hosting view) j k emptied second) (λ (state : Checkpointed H J K). view state.parts.handler) begun
  checkpointing_keeps = record {
    Holds = HasBeside;
    begins = λ state found begins. record {
      file = found;
      many = length found;
      held = begins.0;
      stands = stand_replaced leaving begun found found refl;
      written = none_said (λ (w : Writing K). IsWriting (hosting view) j k emptied begun state.parts found (length found) w) state.writing begins.1;
      unsynced = none_said (λ (new : K). LeavesFirst k leaving begun found (length found) new) state.unsynced begins.2;
    };
    kept = λ state entries durable holds honest. holds.held.kept honest ∙ stand_same leaving begun entries durable holds.file holds.many holds.stands;
    exchanges = λ entries durable before moment asked answer after holds exchange.
        let kept = exchange_beside (hosting view) j k emptied begun entries durable before after moment asked answer holds exchange in
        record {
          own = kept.own;
          one = kept.one;
          held = kept.held;
          honesty = exchange.exchange.honesty;
          tried = elim exchange.exchange.tried [
            | inl step ↦ inl step
            | inr none ↦ inr (ap view none.0, none.1)
          ];
        };
    settles = λ entries durable before after holds settles sound. record {
      held = settled_beside (hosting view) j k emptied second begun seconds initial before after entries durable holds settles sound;
      honesty = still_honest (hosting view) j k emptied second before (Ok tt) after settles;
      changes = still_honest (hosting view) j k emptied second before (Ok tt) after settles;
    };
    ends = λ entries durable performed last left few holds ends leaves.
        elim ends [
          | inl is ↦
              left_beside entries durable durable performed last left (omega arith)
              (held_crashed (hosting view) j k emptied of_old of_new begun performed entries durable left holds (subst (λ (state : Checkpointed H J K). MayLeaveBeside j k state left) is leaves))
              (ap (λ (state : Checkpointed H J K). (view state.parts.handler).honest) is)
          | inr over ↦ ended_beside entries durable performed last left few holds over.0 over.1 over.2 leaves
        ];
    stands_self = λ entries. refl;
    stands_behind = λ file entries others is.
        redone_append leaving begun file others ∙ ap (λ (rs : List Repository). redone_all leaving rs others) is ∙ sym (redone_append leaving begun entries others);
    stands_both = λ file between entries first then. first ∙ then;
    leaves = λ file entries is. is;
    changes_none = λ store. refl;
    changes_both = λ old mid new first then. then ∙ first;
    honest = λ old new is. is;
  }
