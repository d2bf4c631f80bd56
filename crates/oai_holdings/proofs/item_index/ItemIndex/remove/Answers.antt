-- What is taken out at its datestamp is the item of its identifier.
use Rattle.std.proofs.Common.{◌≡◌, ◌∙◌, ◌+◌, None, IsSome, IsTrue, length, ap, FitsSigned, w64}
use Rattle.std.proofs.lemmas.Int.{to_z-of_z}
use Rattle.oai_item.specs.Items.{without, without_at}
use Rattle.oai_catalogue.specs.Store.{list_at}
use Rattle.oai_holdings.specs.Index.{IndexAgrees, ItemIndex, stored_items}
use Rattle.oai_holdings.specs.Entries.{SetsStamp, stamp_in}
use Rattle.oai_holdings.proofs.IndexLemmas.{taken_out}
use Rattle.oai_holdings.proofs.item_index.ItemIndex.remove.Goals as goal

pub returns-clause-made : goal.returns-clause-made
returns-clause-made g c =
    let V = g.V.Versions in
    let fits : FitsSigned w64 c.stamp.result = record { sfits = c.stamp.type_inv } in
    let index = c.args.self.now in
    let item = c.args.item.now in
    let before = V.lists c.args.store.now in
    let new = c.forget.new.self in
    let after = V.lists c.remove.new.self in
    let here : c.self.inside.version ≡ index.version = ap (λ (s : ItemIndex). s.version) c.self.view_is in
    let noting : SetsStamp item.identifier None index.entries new.entries = rw (c.as_str.ensures.text, c.identifier-2.ensures) at c.forget.ensures.entries in
    let many : IsSome (stamp_in item.identifier index.entries) → length new.entries + 1 ≡ length index.entries = rw (c.as_str.ensures.text, c.identifier-2.ensures) at c.forget.ensures.many in
    let both : IsTrue (V.honest c.args.store.now) → (stored_items new after ≡ without item.identifier (stored_items index before)) × IndexAgrees new.entries (stored_items new after) =
    λ honest.
    let out : list_at after new.version ≡ without_at item.stamp item.identifier (stored_items index before) = ap (list_at after) c.forget.ensures.version ∙ rw (c.stamp.ensures.stamp, c.identifier.ensures, here) at (simp to_z-of_z at (c.in_ok-remove.ensures.list honest)) in
    taken_out item index.entries new.entries (stored_items index before) (stored_items new after) (c.requires.stands.agrees honest) (c.requires.there honest) noting many out
    in
    record { list = λ honest. (both honest).0; agrees = λ honest. (both honest).1 }

pub returns-clause-stamped : goal.returns-clause-stamped
returns-clause-stamped g c = rw (c.as_str.ensures.text, c.identifier-2.ensures) at c.forget.ensures.entries
