-- the first items were handed over
use Rattle.std.proofs.Common.{map, take}
use Rattle.oai_item.specs.Item.{ItemState}
use Rattle.oai_repo.specs.Saved.{has_gone}
use Rattle.oai_host.specs.Saving.{TakesParts}
use Rattle.oai_host.proofs.saving.save_gone.Given as goal

abbrev pub invariant-loop-item : goal.invariant-loop-item
invariant-loop-item g l = TakesParts g.S.Sink.has l.repo.name.now l.repo.clock (map (λ (item : ItemState). has_gone item.identifier) (take l.item-index l.items)) l.initial.sink l.sink
