-- Each item is handed over behind those before it.
use Rattle.std.proofs.Common.{List, map, subst}
use Rattle.std.proofs.SliceLists.{take_long}
use Rattle.oai_item.specs.Item.{ItemState}
use Rattle.oai_repo.specs.Saved.{has_item}
use Rattle.oai_host.specs.Saving.{TakesParts}
use Rattle.oai_host.proofs.PieceLemmas.{parts_more}
use Rattle.oai_host.proofs.SavedLemmas.{parts_none}
use Rattle.oai_host.proofs.saves.save_piece.Goals as goal

pub loop-item-init : goal.loop-item-init
loop-item-init g c = λ clock. parts_none g.S.Sink.has c.args.name.now clock c.args.sink.now

pub loop-item-preserved : goal.loop-item-preserved
loop-item-preserved g c =
    λ clock.
    parts_more g.S.Sink.has has_item c.args.name.now clock c.args.items.now c.loop-item.item-index c.item-item.result c.args.sink.now c.loop-item.sink c.save_item.new.sink
    c.loop-item-test.true c.item-item.is (c.loop-item.invariant clock) (c.in_ok-save_item.ensures clock)

pub returns : goal.returns
returns g c =
    λ clock.
    subst (λ (xs : List ItemState). TakesParts g.S.Sink.has c.args.name.now clock (map has_item xs) c.args.sink.now c.loop-item.sink)
    (take_long c.args.items.now c.loop-item.item-index c.loop-item-test.false) (c.loop-item.invariant clock)
