-- What is selected after a key stands after it in the selection.
use Rattle.std.proofs.Common.{rules, FitsSigned, IsTrue, w64}
use Rattle.std.proofs.lemmas.Int.{to_z-of_z}
use Rattle.oai_item.specs.Selection.{selected}
use Rattle.oai_catalogue.specs.Store.{list_at}
use Rattle.oai_holdings.proofs.PartLemmas.{read_after, read_first}
use Rattle.oai_holdings.proofs.changes.purges.read_part.Goals as goal

pub returns-in-Some-clause-part : goal.returns-in-Some-clause-part
returns-in-Some-clause-part g c =
    let V = g.V.Versions in
    let fits : FitsSigned w64 c.in-Some.key.now.stamp = search rules in
    let items = list_at (V.lists c.args.store.now) c.args.v in
    rw c.in-Some.is (read_after c.part_after.result (IsTrue (V.honest c.args.store.now)) c.args.asked.now c.in-Some.key.now c.args.most items (simp to_z-of_z at c.part_after.ensures.part))

pub returns-in-None-clause-part : goal.returns-in-None-clause-part
returns-in-None-clause-part g c =
    let V = g.V.Versions in
    let items = list_at (V.lists c.args.store.now) c.args.v in
    rw c.in-None.is (read_first c.part.result (IsTrue (V.honest c.args.store.now)) c.args.most (selected c.args.asked.now items) c.part.ensures.part)
