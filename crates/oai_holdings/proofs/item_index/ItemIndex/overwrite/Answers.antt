-- What is put at the same datestamp is put in place of the item of its identifier.
use Rattle.std.proofs.Common.{◌≡◌, IsTrue, ap}
use Rattle.oai_item.specs.Items.{with_item}
use Rattle.oai_catalogue.specs.Store.{list_at}
use Rattle.oai_holdings.specs.Changes.{with_new}
use Rattle.oai_holdings.specs.Index.{IndexAgrees, ItemIndex, stored_items}
use Rattle.oai_holdings.specs.Indexing.{IsMadeOn}
use Rattle.oai_holdings.proofs.IndexLemmas.{noted_already, on_ok, put_again}
use Rattle.oai_holdings.proofs.item_index.ItemIndex.overwrite.Goals as goal

pub returns-clause-made : goal.returns-clause-made
returns-clause-made g c =
    let V = g.V.Versions in
    let index = c.args.self.now in
    let before = V.lists c.args.store.now in
    let after = V.lists c.put.new.self in
    let here : c.self.inside.version ≡ index.version = ap (λ (s : ItemIndex). s.version) c.self.view_is in
    let from : (IsTrue (V.honest c.args.store.now) → list_at after c.self.inside.version ≡ with_item c.args.item.now (list_at before c.self.inside.version))
    → IsMadeOn V (with_new c.args.item.now) index c.args.store.now index c.put.new.self =
    λ put.
    let both : IsTrue (V.honest c.args.store.now) → (stored_items index after ≡ with_new c.args.item.now (stored_items index before)) × IndexAgrees index.entries (stored_items index after) =
    λ honest. put_again c.args.item.now index.entries (stored_items index before) (stored_items index after) (c.requires.stands.agrees honest) c.requires.again (rw here at (put honest))
    in
    record { list = λ honest. (both honest).0; agrees = λ honest. (both honest).1 }
    in
    on_ok c.put.result _ _ from c.put.ensures.list

pub returns-clause-stamped : goal.returns-clause-stamped
returns-clause-stamped g c = noted_already c.args.item.now c.args.self.now.entries c.requires.again
