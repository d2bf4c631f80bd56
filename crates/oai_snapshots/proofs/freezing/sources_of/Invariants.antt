use Rattle.std.proofs.Common.{◌≡◌, map, take}
use Rattle.oai_lists.specs.OpenLists.{open_ones}
use Rattle.oai_snapshots.specs.Taking.{source_of}
use Rattle.oai_snapshots.proofs.freezing.sources_of.Given as goal

-- the versions of those of the lists so far that are open
abbrev pub invariant-lists : goal.invariant-lists
invariant-lists l = l.sources.items ≡ map source_of (open_ones l.repo.clock (take l.at l.repo.table.lists))
