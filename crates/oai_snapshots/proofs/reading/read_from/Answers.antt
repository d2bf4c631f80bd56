-- What asks for all datestamps selects all items, and all that come after a key.
use Rattle.std.proofs.Common.{◌≡◌, ◌∙◌, pos, List, Option, ap, sym, take, rules, to_z, of_z, w64}
use Rattle.std.proofs.lemmas.Int.{to_z-of_z}
use Rattle.std.specs.Option.{option_copied}
use Rattle.oai_item.specs.Item.{ItemState}
use Rattle.oai_item.specs.Items.{items_after}
use Rattle.oai_item.specs.Selection.{Filter, selected}
use Rattle.oai_catalogue.specs.Store.{list_at}
use Rattle.oai_holdings.specs.Purges.{until}
use Rattle.oai_holdings.specs.Missing.{items_past}
use Rattle.oai_holdings.specs.declared.differences.OwnedKey.{OwnedKey}
use Rattle.oai_holdings.proofs.IndexLemmas.{if_ok}
use Rattle.oai_holdings.proofs.BatchLemmas.{from_first, from_key}
use Rattle.oai_holdings.proofs.RestoreLemmas.{all_selected, behind_selected}
use Rattle.oai_snapshots.proofs.reading.read_from.Goals as goal

pub returns-clause-items : goal.returns-clause-items
returns-clause-items g c =
    let items = list_at (g.V.Versions.lists c.args.store.now) c.args.version in
    let asked : c.in_ok-asked.asked ≡ until (pos 253_402_300_799) = c.in_ok-asked.ensures.ok in
    if_ok c.part.result _ _
    (λ (read : List ItemState) is honest.
    is honest
    ∙ ap (λ (f : Filter). take c.args.most (selected f items)) asked
    ∙ ap (take c.args.most) (all_selected items (c.requires.core honest) (c.requires.dated honest))
    ∙ ap (take c.args.most) (sym (from_first items))
    ∙ ap (λ (o : Option OwnedKey). take c.args.most (items_past o items)) (sym (ap option_copied c.in-None.is)))
    c.part.ensures.part

pub returns-in-Some-clause-items : goal.returns-in-Some-clause-items
returns-in-Some-clause-items g c =
    let key = c.in-Some.key.now in
    let items = list_at (g.V.Versions.lists c.args.store.now) c.args.version in
    let asked : c.in_ok-asked.asked ≡ until (pos 253_402_300_799) = c.in_ok-asked.ensures.ok in
    let stamp : to_z w64 (of_z w64 key.stamp) ≡ key.stamp = search (rules, to_z-of_z) in
    let part = rw stamp at c.part_after.ensures.part in
    if_ok c.part_after.result _ _
    (λ (read : List ItemState) is honest.
    is honest
    ∙ ap (λ (f : Filter). take c.args.most (selected f (items_after key.stamp key.identifier items))) asked
    ∙ ap (take c.args.most) (behind_selected key.stamp key.identifier items (c.requires.core honest) (c.requires.dated honest))
    ∙ ap (take c.args.most) (from_key key items)
    ∙ ap (λ (o : Option OwnedKey). take c.args.most (items_past o items)) (sym (ap option_copied c.in-Some.is)))
    part
