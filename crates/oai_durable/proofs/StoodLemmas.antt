-- A handler whose file has a checkpoint in place of the first records.
use Rattle.std.proofs.Common.{◌≡◌, ◌∙◌, ℕ, ℤ, ◌++◌, List, length, Ok, Err, sym, ap}
use Rattle.oai_http.specs.Exchanges.{Asked}
use Rattle.oai_http.specs.declared.exchanges.Answer.{Answer}
use Rattle.oai_http.specs.declared.handlers.SettleFault.{SettleFault}
use Rattle.oai_journal.specs.Journals.{IsLeft}
use Rattle.oai_journal.specs.Records.{Entry}
use Rattle.oai_journal.specs.declared.journals.Journal as journal
use Rattle.oai_durable.specs.Journaled.{IsExchange, IsHeld, IsSettled, Parts, Replaying}
use Rattle.oai_durable.specs.Stood.{IsHeldBy, IsKeptBy, IsLeftLike}
use Rattle.oai_durable.proofs.MoveLemmas.{place_over}
use Rattle.oai_durable.proofs.StandLemmas.{stand_behind, stand_crashed, stand_durable}

-- an exchange after the records of the file is one after those for which they stand
pub exchange_by : {H J : Type 0} (h : Replaying H) (j : journal.Ghosts J) (begun : h.Kept) (entries : List Entry) (durable : ℕ)
    (before new : Parts H J) (moment : ℤ) (asked : Asked) (answer : Answer)
    → IsHeldBy h j begun before entries durable → IsExchange h j before moment asked answer new → IsKeptBy h j begun entries durable before moment asked answer new
exchange_by h j begun entries durable before new moment asked answer by exchange =
    let kept = exchange.kept begun by.file by.written by.held in
    record {
      own = kept.own;
      one = kept.one;
      held = record {
        file = by.file ++ kept.own;
        written = by.written;
        held = kept.held;
        stands = stand_behind h.leaving begun entries durable by.file by.written kept.own by.stands;
      };
      place = λ honest.
          place_over h.leaving h.reply begun entries durable by.file by.written (record { moment = moment; asked = asked; answer = answer; own = kept.own }) by.stands
          (record { told = kept.told honest; left = kept.left honest });
    }

-- the handler is as it was, and so is what it keeps
still_held : {H J : Type 0} (h : Replaying H) (j : journal.Ghosts J) (begun : h.Kept) (before new : Parts H J) (file : List Entry) (written now : ℕ)
    → new.handler ≡ before.handler → j.holds new.journal file now → IsHeld h j begun before file written → IsHeld h j begun new file now
still_held h j begun before new file written now same holds held = record {
  records = holds;
  kept = λ honest. ap h.kept same ∙ held.kept (sym (ap h.is_honest same) ∙ honest);
}

pub settled_by : {H J : Type 0} (h : Replaying H) (j : journal.Ghosts J) (begun : h.Kept) (entries : List Entry) (durable : ℕ) (before new : Parts H J)
    → IsHeldBy h j begun before entries durable → IsSettled j before (Ok tt) new → IsHeldBy h j begun new entries (length entries)
settled_by h j begun entries durable before new by settles = record {
  file = by.file;
  written = length by.file;
  held = still_held h j begun before new by.file by.written (length by.file) settles.handler (settles.ok by.file by.written by.held.records) by.held;
  stands = stand_durable h.leaving begun entries durable by.file by.written by.stands;
}

pub unsettled_by : {H J : Type 0} (h : Replaying H) (j : journal.Ghosts J) (begun : h.Kept) (entries : List Entry) (durable : ℕ) (before new : Parts H J) (fault : SettleFault)
    → IsHeldBy h j begun before entries durable → IsSettled j before (Err fault) new → IsHeldBy h j begun new entries durable
unsettled_by h j begun entries durable before new fault by settles = record {
  file = by.file;
  written = by.written;
  held = still_held h j begun before new by.file by.written by.written settles.handler (settles.err by.file by.written by.held.records) by.held;
  stands = by.stands;
}

pub crash_by : {H J : Type 0} (h : Replaying H) (j : journal.Ghosts J)
    → ((journal : J) (entries : List Entry) (durable : ℕ) (found : List Entry) → j.holds journal entries durable → j.may_leave journal found → IsLeft durable entries found)
    → (begun : h.Kept) (entries : List Entry) (durable : ℕ) (parts : Parts H J) (left : List Entry)
    → IsHeldBy h j begun parts entries durable → j.may_leave parts.journal left → IsLeftLike h.leaving begun entries durable left
crash_by h j law begun entries durable parts left by leaves =
    stand_crashed h.leaving begun entries durable by.file by.written left by.stands (law parts.journal by.file by.written left by.held.records leaves)
