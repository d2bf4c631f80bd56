-- A file whose records stand for others: a checkpoint takes the place of the first of them. This repository's own.
use Rattle.std.specs.Prelude.{◌≡◌, ℕ, ℤ, ◌≤◌, ◌+◌, IsTrue, List, ◌++◌, length}
use Rattle.oai_http.specs.Exchanges.{Asked}
use Rattle.oai_http.specs.declared.exchanges.Answer.{Answer}
use Rattle.oai_journal.specs.Journals.{IsLeft}
use Rattle.oai_journal.specs.Records.{Entry}
use Rattle.oai_journal.specs.declared.journals.Journal as journal
use Rattle.oai_durable.specs.Journaled.{IsHeld, Parts, Replaying}
use Rattle.oai_durable.specs.Lives.{HasPlace}
use Rattle.oai_durable.specs.Records.{Leaving, redone_all}

-- the records of a file, of which that many are durable, stand for a list of records, of which so many are: in place of
-- the first ones are others, all of them durable, that leave the same state; and the same records follow
pub record StandInFor {K : Type 0} (leaving : Leaving K) (begun : K) (entries : List Entry) (durable : ℕ) (file : List Entry) (written : ℕ) : Type 0 where
  pub first : List Entry
  pub saved : List Entry
  pub behind : List Entry
  pub many : ℕ
  pub are : entries ≡ first ++ behind
  pub file_is : file ≡ saved ++ behind
  pub leaves : redone_all leaving begun saved ≡ redone_all leaving begun first
  pub durable_is : durable ≡ length first + many
  pub written_is : written ≡ length saved + many

-- the journal's file stands for these records, so many of which are durable, and its replay gives the handler's state
pub record IsHeldBy {H J : Type 0} (h : Replaying H) (j : journal.Ghosts J) (begun : h.Kept) (parts : Parts H J) (entries : List Entry) (durable : ℕ) : Type 0 where
  pub file : List Entry
  pub written : ℕ
  pub held : IsHeld h j begun parts file written
  pub stands : StandInFor h.leaving begun entries durable file written

-- an exchange after these records: what was performed is logged after them, at most one record, and nothing more is
-- durable; an answer without a fault has its place after all of them, though the file has others in place of the first
pub record IsKeptBy {H J : Type 0} (h : Replaying H) (j : journal.Ghosts J) (begun : h.Kept) (entries : List Entry) (durable : ℕ)
    (before : Parts H J) (moment : ℤ) (asked : Asked) (answer : Answer) (after : Parts H J) : Type 0 where
  pub own : List Entry
  pub one : length own ≤ 1
  pub held : IsHeldBy h j begun after (entries ++ own) durable
  pub place : IsTrue (h.is_honest before.handler) → HasPlace h.leaving h.reply begun entries (record { moment = moment; asked = asked; answer = answer; own = own })

-- what a crash left of the file stands, all of it durable, for what it would have left of these records
pub record IsLeftLike {K : Type 0} (leaving : Leaving K) (begun : K) (entries : List Entry) (durable : ℕ) (left : List Entry) : Type 0 where
  pub found : List Entry
  pub leaves : IsLeft durable entries found
  pub stands : StandInFor leaving begun found (length found) left (length left)
