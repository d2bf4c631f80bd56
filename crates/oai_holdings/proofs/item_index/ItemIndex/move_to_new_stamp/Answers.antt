-- What is put at another datestamp is put in place of the item of its identifier.
use Rattle.std.proofs.Common.{◌≡◌, ◌∙◌, Some, IsTrue, length, ap, FitsSigned, w64}
use Rattle.std.proofs.lemmas.Int.{to_z-of_z}
use Rattle.oai_item.specs.Items.{with_item, without_at}
use Rattle.oai_catalogue.specs.Store.{list_at}
use Rattle.oai_holdings.specs.Changes.{with_new}
use Rattle.oai_holdings.specs.Index.{IndexAgrees, ItemIndex, stored_items}
use Rattle.oai_holdings.specs.Entries.{SetsStamp}
use Rattle.oai_holdings.proofs.IndexLemmas.{put_moved}
use Rattle.oai_holdings.proofs.item_index.ItemIndex.move_to_new_stamp.Goals as goal

pub returns-clause-made : goal.returns-clause-made
returns-clause-made g c =
    let V = g.V.Versions in
    let fits : FitsSigned w64 c.stamp.result = record { sfits = c.stamp.type_inv } in
    let fits_old : FitsSigned w64 c.args.old = c.ranges.old in
    let index = c.args.self.now in
    let item = c.args.item.now in
    let before = V.lists c.args.store.now in
    let new = c.restamp.new.self in
    let after = V.lists c.replace.new.self in
    let here : c.self.inside.version ≡ index.version = ap (λ (s : ItemIndex). s.version) c.self.view_is in
    let noting : SetsStamp item.identifier (Some item.stamp) index.entries new.entries = rw (c.as_str.ensures.text, c.identifier-2.ensures, c.stamp.ensures.stamp) at (simp to_z-of_z at c.restamp.ensures.entries) in
    let many : length new.entries ≡ length index.entries = c.restamp.ensures.many in
    let both : IsTrue (V.honest c.args.store.now) → (stored_items new after ≡ with_new item (stored_items index before)) × IndexAgrees new.entries (stored_items new after) =
    λ honest.
    let put : list_at after new.version ≡ with_item item (without_at c.args.old item.identifier (stored_items index before)) = ap (list_at after) c.restamp.ensures.version ∙ rw (here, c.identifier.ensures) at (simp to_z-of_z at (c.in_ok-replace.ensures.list honest)) in
    put_moved item c.args.old index.entries new.entries (stored_items index before) (stored_items new after) (c.requires.stands.agrees honest) c.requires.there noting many put
    in
    record { list = λ honest. (both honest).0; agrees = λ honest. (both honest).1 }

pub returns-clause-stamped : goal.returns-clause-stamped
returns-clause-stamped g c =
    let fits : FitsSigned w64 c.stamp.result = record { sfits = c.stamp.type_inv } in
    rw (c.as_str.ensures.text, c.identifier-2.ensures, c.stamp.ensures.stamp) at (simp to_z-of_z at c.restamp.ensures.entries)
