use Rattle.std.proofs.Common.{◌≡◌, ◌≤◌, length}
use Rattle.oai_host.specs.Bodies.{lines_in}
use Rattle.oai_host.specs.DepositLines.{FollowsLines}
use Rattle.oai_host.proofs.deposits.next_line.Given as goal

-- only blank lines so far
abbrev pub invariant-loop-rest : goal.invariant-loop-rest
invariant-loop-rest l = record {
  lines : lines_in l.body ≡ lines_in l.rest;
  behind : FollowsLines l.body l.rest 0;
  within : length l.rest ≤ length l.body;
}

abbrev pub decreases-loop-rest : goal.decreases-loop-rest
decreases-loop-rest l = length l.rest
