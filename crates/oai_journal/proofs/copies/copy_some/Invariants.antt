use Rattle.std.proofs.Common.{◌≡◌, ◌-◌, ◌++◌, ℕ, List, IsTrue, take, true}
use Rattle.oai_journal.specs.Copies.{AreCopied}
use Rattle.oai_journal.specs.Records.{Entry}
use Rattle.oai_journal.proofs.copies.copy_some.Given as goal

-- some of the records behind the tail were read and stand in the copy, whatever else was there: at least one, if bytes
-- were copied
abbrev pub invariant-loop-copied : goal.invariant-loop-copied
invariant-loop-copied g l =
    ((entries : List Entry) (durable : ℕ) → g.J.Journal.holds l.fn.journal entries durable → g.J.Journal.holds l.journal entries durable)
    × (IsTrue (g.J.Journal.is_clean l.journal) → IsTrue (g.J.Journal.is_clean l.fn.journal))
    × (IsTrue (g.J.Journal.is_clean l.journal) → (entries : List Entry) (durable : ℕ) (read behind : List Entry) → g.J.Journal.holds l.fn.journal entries durable
    → take durable entries ≡ read ++ behind → g.J.Journal.stands l.fn.journal l.fn.tail read → (others : List Entry) (lasting : ℕ) → g.K.Journal.holds l.fn.copy others lasting
    → AreCopied (g.J.Journal.stands l.journal l.tail) (λ (records : List Entry). g.K.Journal.holds l.copy records lasting) read behind others l.copied true)
    × ((others : List Entry) (lasting : ℕ) → g.K.Journal.holds l.fn.copy others lasting → (some : List Entry) × g.K.Journal.holds l.copy (others ++ some) lasting)

abbrev pub decreases-loop-copied : goal.decreases-loop-copied
decreases-loop-copied g l = l.bytes - l.copied
