-- What an exchange keeps.
use Rattle.std.proofs.Common.{◌≡◌, ◌∙◌, ◌≤◌, inl, inr, ℕ, ℤ, ◌++◌, IsTrue, List, [], length, Option, None, Some, refl, sym, ap, arith}
use Rattle.std.proofs.lemmas.List.{append-nil}
use Rattle.oai_item.specs.declared.faults.Fault.TheVariants.{NoMemory}
use Rattle.oai_http.specs.Exchanges.{Asked, call_at}
use Rattle.oai_replay.specs.Redone.{left_again}
use Rattle.oai_http.specs.declared.exchanges.Answer.{Answer}
use Rattle.oai_replay.specs.declared.replays.Performed.{Performed}
use Rattle.oai_journal.specs.Records.{Entry}
use Rattle.oai_journal.specs.declared.journals.Journal as journal
use Rattle.oai_journal.specs.declared.tails.Tail.{Tail}
use Rattle.oai_replay.specs.Parts.{PartState}
use Rattle.oai_durable.specs.Journaled.{IsExchange, Parts, Replaying, unperformed_answer}
use Rattle.oai_durable.specs.Records.{log_entries_of, redone_all}
use Rattle.oai_durable.proofs.RecordLemmas.{left_redone, redone_append}

none_is_some : {P : Type 0} {A : Type 0} (x : A) → Some x ≡ None → P
none_is_some x is = cc

-- a message that was refused before it was performed
pub refused_kept : {H J : Type 0} (h : Replaying H) (j : journal.Ghosts J) (before : Parts H J) (moment : ℤ) (asked : Asked) (answer : Answer) (after : J)
    → answer ≡ unperformed_answer asked.target
    → ((entries : List Entry) (durable : ℕ) → j.holds before.journal entries durable → j.holds after entries durable)
    → ((tail : Tail) (read : List Entry) → j.stands before.journal tail read → j.stands after tail read)
    → IsExchange h j before moment asked answer (record { handler = before.handler; journal = after })
refused_kept h j before moment asked answer after told same tails =
    let fault : answer.fault ≡ Some NoMemory = ap (λ (a : Answer). a.fault) told in
    record {
      tried = inr (refl, told);
      honesty = refl;
      kept = λ begun entries durable held. record {
        own = [];
        one = grind (arith);
        held = rw (append-nil entries) (record { records = same entries durable held.records; kept = held.kept });
        told = λ honest whole. none_is_some NoMemory (sym fault ∙ whole);
        left = λ honest whole. none_is_some NoMemory (sym fault ∙ whole);
      };
      saving = λ state saved saves. saves;
      tails = tails;
    }

-- the handler performed a message, and its record was added, if there is one
pub performed_kept : {H J : Type 0} (h : Replaying H) (j : journal.Ghosts J) (before : Parts H J) (moment : ℤ) (asked : Asked) (answer : Answer) (performed : Option Performed) (after : Parts H J)
    → h.step before.handler moment asked answer after.handler
    → (IsTrue (h.is_honest before.handler) → h.kept after.handler ≡ left_again h.leaving.redone (h.kept before.handler) moment performed)
    → (IsTrue (h.is_honest before.handler) → answer.fault ≡ None → h.kept after.handler ≡ h.leaving.redone (h.kept before.handler) (call_at moment asked))
    → (IsTrue (h.is_honest before.handler) → answer.fault ≡ None → answer ≡ h.reply (h.kept before.handler) (call_at moment asked))
    → h.is_honest after.handler ≡ h.is_honest before.handler
    → ((entries : List Entry) (durable : ℕ) → j.holds before.journal entries durable → j.holds after.journal (entries ++ log_entries_of moment performed) durable)
    → ((state : h.Kept) (saved : List PartState) → h.saves before.handler state saved → h.saves after.handler state saved)
    → ((tail : Tail) (read : List Entry) → j.stands before.journal tail read → j.stands after.journal tail read)
    → IsExchange h j before moment asked answer after
performed_kept h j before moment asked answer performed after step left whole reply honesty holds saving tails = record {
  tried = inl step;
  honesty = honesty;
  kept = λ begun entries durable held.
      let own : List Entry = log_entries_of moment performed in
      let is : IsTrue (h.is_honest before.handler) → h.kept after.handler ≡ redone_all h.leaving begun (entries ++ own) = λ honest.
      left honest ∙ left_redone h.leaving (h.kept before.handler) moment performed
      ∙ ap (λ (k : h.Kept). redone_all h.leaving k own) (held.kept honest) ∙ sym (redone_append h.leaving begun entries own) in
      record {
        own = own;
        one = few moment performed;
        held = record { records = holds entries durable held.records; kept = λ honest. is (sym honesty ∙ honest) };
        told = λ honest none. reply honest none ∙ ap (λ (k : h.Kept). h.reply k (call_at moment asked)) (held.kept honest);
        left = λ honest none. sym (is honest) ∙ whole honest none ∙ ap (λ (k : h.Kept). h.leaving.redone k (call_at moment asked)) (held.kept honest);
      };
  saving = saving;
  tails = tails;
} where
  few : (moment : ℤ) (p : Option Performed) → length (log_entries_of moment p) ≤ 1
  few moment None = grind (arith)
  few moment (Some p) = grind (arith)
