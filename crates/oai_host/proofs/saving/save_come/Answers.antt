-- The list is passed behind the items.
use Rattle.std.proofs.Common.{List, map}
use Rattle.oai_holdings.proofs.IndexLemmas.{on_ok}
use Rattle.oai_repo.specs.Saved.{SavedPartState, has_item}
use Rattle.oai_snapshots.specs.Snapshots.{list_parts}
use Rattle.oai_host.proofs.SavedLemmas.{parts_then}
use Rattle.oai_host.proofs.saving.save_come.Goals as goal

pub returns : goal.returns
returns g c =
    let has = g.S.Sink.has in
    let repo = c.args.repo.now in
    let items : List SavedPartState = map has_item c.args.items.now in
    let list : List SavedPartState = list_parts c.args.list.now in
    on_ok c.save_list_if.result _ _
    (λ taken. parts_then has repo.name.now repo.clock items list c.args.sink.now c.save_piece.new.sink c.save_list_if.new.sink (c.in_ok-save_piece.ensures repo.clock) taken) c.save_list_if.ensures
