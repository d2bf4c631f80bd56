-- What the theorem of a server asks of its handler; and that a journaled one has it.
use Rattle.std.proofs.Common.{◌≡◌, ◌∙◌, ◌⊎◌, inl, inr, ◌≤◌, ℕ, ℤ, ◌++◌, IsTrue, List, [], ◌∷◌, length, Result, Ok, Err, refl, sym, ap, subst}
use Rattle.oai_front.specs.Performing.{Steps}
use Rattle.oai_front.specs.Runs.{Served}
use Rattle.oai_http.specs.Exchanges.{Asked}
use Rattle.oai_http.specs.declared.exchanges.Answer.{Answer}
use Rattle.oai_http.specs.declared.handlers.SettleFault.{SettleFault}
use Rattle.oai_host.specs.Exchanged.{IsHandled}
use Rattle.oai_host.specs.Hosts.{HostState, Repository, store_of}
use Rattle.oai_host.specs.Performed.{StoreState}
use Rattle.oai_journal.specs.Journals.{IsLeft}
use Rattle.oai_journal.specs.Records.{Entry}
use Rattle.oai_journal.specs.declared.journals.Journal as journal
use Rattle.oai_serving.specs.Rounds.{AreSettled, EndsService}
use Rattle.oai_serving.specs.declared.faults.ServeFault.{ServeFault}
use Rattle.oai_serving.specs.declared.faults.ServeFault.TheVariants.{Clock, Unsettled, Wait}
use Rattle.oai_durable.specs.Journaled.{IsHeld, Parts, Replaying, unperformed_answer}
use Rattle.oai_durable.specs.Records.{redone_all}
use Rattle.oai_durable.proofs.ServedLemmas.{ends_held, left_less}
use Rattle.oai_service.specs.Hosting.{hosting, leaving}
use Rattle.oai_service.specs.Keeping.{AreSound, IsSoundEnd, Keeping, journaling}

-- ---- what is asked

-- what an exchange does: at most one record of its own is behind the others; a host performed it, or nothing was done
pub record IsKeptIn {X : Type 0} (view : X → HostState) (Holds : List Entry → ℕ → X → Type 0) (entries : List Entry) (durable : ℕ)
    (before : X) (moment : ℤ) (asked : Asked) (answer : Answer) (after : X) : Type 0 where
  pub own : List Entry
  pub one : length own ≤ 1
  pub held : Holds (entries ++ own) durable after
  pub honesty : (view after).honest ≡ (view before).honest
  pub tried : IsHandled (view before) moment asked answer (view after) ⊎ ((view after ≡ view before) × (answer ≡ unperformed_answer asked.target))

-- what settling does: all records are durable, and the store changes no more than between messages
pub record IsSettledIn {X : Type 0} (keeping : Keeping X (List Repository)) (view : X → HostState) (Holds : List Entry → ℕ → X → Type 0) (entries : List Entry) (before after : X) : Type 0 where
  pub held : Holds entries (length entries) after
  pub honesty : (view after).honest ≡ (view before).honest
  pub changes : keeping.changes (store_of (view before)) (store_of (view after))

-- how a life ends: at once, or after settling succeeded or failed, before an answer is sent
abbrev pub EndsWith : {X K : Type 0} → Keeping X K → X → X → Type 0
EndsWith keeping performed last =
    (last ≡ performed) ⊎ ((result : Result (Unit {0}) SettleFault) × (settles : keeping.settled performed result last) × keeping.sound performed result last settles)

-- what a crash leaves then: what it left stands for all durable records, and the first of the others
pub record IsLeftIn {X : Type 0} (keeping : Keeping X (List Repository)) (view : X → HostState) (begun : List Repository) (entries : List Entry) (durable : ℕ) (performed last : X) (left : List Entry) : Type 0 where
  pub found : List Entry
  pub leaves : IsLeft durable entries found
  pub stands : keeping.stands begun left found
  pub changes : keeping.changes (store_of (view performed)) (store_of (view last))

-- what is asked of a handler that is a host. `Holds`: it has these records, so many of them durable
pub record Keeps {X : Type 0} (keeping : Keeping X (List Repository)) (view : X → HostState) (begun : List Repository) : Type 1 where
  pub Holds : List Entry → ℕ → X → Type 0
  pub begins : (x : X) (found : List Entry) → keeping.begins begun x found → Holds found (length found) x
  pub kept : (x : X) (entries : List Entry) (durable : ℕ) → Holds entries durable x → IsTrue (view x).honest → (view x).repositories ≡ redone_all leaving begun entries
  pub exchanges : (entries : List Entry) (durable : ℕ) (before : X) (moment : ℤ) (asked : Asked) (answer : Answer) (after : X) → Holds entries durable before
      → keeping.step before moment asked answer after → IsKeptIn view Holds entries durable before moment asked answer after
  pub settles : (entries : List Entry) (durable : ℕ) (before after : X) → Holds entries durable before
      → (settles : keeping.settled before (Ok tt) after) → keeping.sound before (Ok tt) after settles → IsSettledIn keeping view Holds entries before after
  pub ends : (entries : List Entry) (durable : ℕ) (performed last : X) (left : List Entry) → durable ≤ length entries → Holds entries durable performed → EndsWith keeping performed last
      → keeping.may_leave last left → IsLeftIn keeping view begun entries durable performed last left
  pub stands_self : (entries : List Entry) → keeping.stands begun entries entries
  pub stands_behind : (file entries others : List Entry) → keeping.stands begun file entries → keeping.stands begun (file ++ others) (entries ++ others)
  pub stands_both : (file between entries : List Entry) → keeping.stands begun file between → keeping.stands begun between entries → keeping.stands begun file entries
  pub leaves : (file entries : List Entry) → keeping.stands begun file entries → redone_all leaving begun file ≡ redone_all leaving begun entries
  pub changes_none : (store : StoreState) → keeping.changes store store
  pub changes_both : (old mid new : StoreState) → keeping.changes old mid → keeping.changes mid new → keeping.changes old new
  pub honest : (old new : StoreState) → keeping.changes old new → new.honest ≡ old.honest

-- ---- a journaled handler

module _ {H J : Type 0} (view : H → HostState) (j : journal.Ghosts J)
    (law : (journal : J) (entries : List Entry) (durable : ℕ) (found : List Entry) → j.holds journal entries durable → j.may_leave journal found → IsLeft durable entries found)
    (begun : List Repository) where
  abbrev HasRecords : List Entry → ℕ → Parts H J → Type 0
  HasRecords entries durable parts = IsHeld (hosting view) j begun parts entries durable

  pub journaling_keeps : Keeps (journaling (hosting view) j) (λ (parts : Parts H J). view parts.handler) begun
  journaling_keeps = record {
    Holds = HasRecords;
    begins = λ parts found held. held;
    kept = λ parts entries durable held. held.kept;
    exchanges = λ entries durable before moment asked answer after held exchange.
        let kept = exchange.kept begun entries durable held in
        record {
          own = kept.own;
          one = kept.one;
          held = kept.held;
          honesty = exchange.honesty;
          tried = elim exchange.tried [
            | inl step ↦ inl step
            | inr none ↦ inr (ap view none.0, none.1)
          ];
        };
    settles = λ entries durable before after held settles sound. record {
      held = record {
        records = settles.ok entries durable held.records;
        kept = λ honest. ap (λ (x : H). (view x).repositories) settles.handler ∙ held.kept (sym (ap (λ (x : H). (view x).honest) settles.handler) ∙ honest);
      };
      honesty = ap (λ (x : H). (view x).honest) settles.handler;
      changes = ap (λ (x : H). store_of (view x)) settles.handler;
    };
    ends = λ entries durable performed last left few held ends leaves.
        elim ends [
          | inl is ↦
              record {
                found = left;
                leaves = law last.journal entries durable left (subst (λ (p : Parts H J). j.holds p.journal entries durable) (sym is) held.records) leaves;
                stands = refl;
                changes = ap (λ (p : Parts H J). store_of (view p.handler)) is;
              }
          | inr settled ↦
              let now = ends_held j entries durable performed last few held.records (inr (settled.0, settled.1)) in
              record {
                found = left;
                leaves = left_less durable now.0 entries left now.1 (law last.journal entries now.0 left now.2 leaves);
                stands = refl;
                changes = ap (λ (x : H). store_of (view x)) settled.1.handler;
              }
        ];
    stands_self = λ entries. refl;
    stands_behind = λ file entries others is. ap (λ (es : List Entry). es ++ others) is;
    stands_both = λ file between entries first then. first ∙ then;
    leaves = λ file entries is. ap (redone_all leaving begun) is;
    changes_none = λ store. refl;
    changes_both = λ old mid new first second. second ∙ first;
    honest = λ old new is. ap (λ (s : StoreState). s.honest) is;
  }

-- its settlings are right
pub all_sound : {H J : Type 0} (h : Replaying H) (j : journal.Ghosts J) (step : Steps (Parts H J)) (rounds : List (List Served)) (old new : Parts H J)
    (settles : AreSettled step (journaling h j).settled rounds old new) → AreSound (journaling h j) step rounds old new settles
all_sound h j step [] old new settles = tt
all_sound h j step (served ∷ rounds) old new settles = (tt, all_sound h j step rounds settles.0 new settles.2)

pub end_sound : {H J : Type 0} (h : Replaying H) (j : journal.Ghosts J) (step : Steps (Parts H J)) (mid : Parts H J) (result : Result (Unit {0}) ServeFault) (new : Parts H J)
    (ends : EndsService step (journaling h j).settled mid result new) → IsSoundEnd (journaling h j) step mid result new ends
end_sound h j step mid (Ok done) new ends = tt
end_sound h j step mid (Err Unsettled) new ends = tt
end_sound h j step mid (Err Wait) new ends = tt
end_sound h j step mid (Err Clock) new ends = tt
