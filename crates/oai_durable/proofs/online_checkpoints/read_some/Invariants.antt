-- The journal holds what it held.
use Rattle.std.proofs.Common.{◌-◌, ℕ, List}
use Rattle.oai_journal.specs.Records.{Entry}
use Rattle.oai_durable.proofs.online_checkpoints.read_some.Given as goal

abbrev pub invariant-loop-read : goal.invariant-loop-read
invariant-loop-read g l = (entries : List Entry) (durable : ℕ) → g.K.Journal.holds l.fn.journal entries durable → g.K.Journal.holds l.journal entries durable

abbrev pub decreases-loop-read : goal.decreases-loop-read
decreases-loop-read g l = l.bytes - l.read
