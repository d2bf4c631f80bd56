use Rattle.std.proofs.Common.{◌≤◌, ◌+◌, length}
use Rattle.oai_host.specs.Bodies.{lines_in}
use Rattle.oai_host.specs.DepositLines.{FollowsLines}
use Rattle.oai_host.proofs.ProgressLemmas.{AreDoneIn}
use Rattle.oai_host.proofs.deposits.perform_lines.Given as goal

-- some lines were performed, and the others are left
abbrev pub invariant-loop-text : goal.invariant-loop-text
invariant-loop-text g l = record {
  lines : AreDoneIn g.V.Versions l.moment l.initial.repo l.initial.store (lines_in l.body) (lines_in l.rest) l.told.items l.done l.repo l.store;
  behind : FollowsLines l.body l.rest l.done;
  few : l.done + length l.rest ≤ length l.body;
}

abbrev pub decreases-loop-text : goal.decreases-loop-text
decreases-loop-text g l = length l.rest
