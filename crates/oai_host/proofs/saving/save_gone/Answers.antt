-- Each item is handed over behind those before it.
use Rattle.std.proofs.Common.{List, map, subst}
use Rattle.std.proofs.SliceLists.{take_long}
use Rattle.oai_item.specs.Item.{ItemState}
use Rattle.oai_repo.specs.Saved.{SavedPartState, has_gone}
use Rattle.oai_host.specs.Saving.{TakesParts}
use Rattle.oai_host.proofs.PieceLemmas.{parts_more}
use Rattle.oai_host.proofs.SavedLemmas.{parts_none}
use Rattle.oai_host.proofs.saving.save_gone.Goals as goal

pub loop-item-init : goal.loop-item-init
loop-item-init g c = parts_none g.S.Sink.has c.args.repo.now.name.now c.args.repo.now.clock c.args.sink.now

pub loop-item-preserved : goal.loop-item-preserved
loop-item-preserved g c =
    let part : ItemState → SavedPartState = λ item. has_gone item.identifier in
    parts_more g.S.Sink.has part c.args.repo.now.name.now c.args.repo.now.clock c.args.items.now c.loop-item.item-index c.item-item.result c.args.sink.now c.loop-item.sink c.save_one_gone.new.sink
    c.loop-item-test.true c.item-item.is c.loop-item.invariant c.in_ok-save_one_gone.ensures

pub returns : goal.returns
returns g c =
    subst (λ (xs : List ItemState). TakesParts g.S.Sink.has c.args.repo.now.name.now c.args.repo.now.clock (map (λ (item : ItemState). has_gone item.identifier) xs) c.args.sink.now c.loop-item.sink)
    (take_long c.args.items.now c.loop-item.item-index c.loop-item-test.false) c.loop-item.invariant
