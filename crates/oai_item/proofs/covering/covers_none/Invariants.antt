use Rattle.std.proofs.Common.{◌≡◌, length}
use Rattle.std.specs.List.{list_all}
use Rattle.oai_item.specs.Membership.{neither_covers}
use Rattle.oai_item.proofs.covering.covers_none.Given as goal

abbrev pub invariant-loop-other : goal.invariant-loop-other
invariant-loop-other l = list_all (neither_covers l.set) l.rest ≡ list_all (neither_covers l.set) l.others

abbrev pub decreases-loop-other : goal.decreases-loop-other
decreases-loop-other l = length l.rest
