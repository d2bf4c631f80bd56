-- the first items were handed over
use Rattle.std.proofs.Common.{ℤ, map, take}
use Rattle.oai_repo.specs.Saved.{has_item}
use Rattle.oai_host.specs.Saving.{TakesParts}
use Rattle.oai_host.proofs.saves.save_piece.Given as goal

abbrev pub invariant-loop-item : goal.invariant-loop-item
invariant-loop-item g l = (clock : ℤ) → TakesParts g.S.Sink.has l.name clock (map has_item (take l.item-index l.items)) l.initial.sink l.sink
