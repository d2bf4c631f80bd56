use Rattle.std.proofs.Common.{take}
use Rattle.oai_lists.specs.OpenLists.{IsEarliest, open_ones}
use Rattle.oai_lists.proofs.lists.earliest.Given as goal

-- of those so far that are open none ends before it
abbrev pub invariant-loop-list : goal.invariant-loop-list
invariant-loop-list l = IsEarliest (open_ones l.now (take l.list-index l.lists)) l.earliest
