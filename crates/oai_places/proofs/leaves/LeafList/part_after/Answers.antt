use Rattle.std.proofs.Common.{◌≡◌, ◌∙◌, IsTrue, List, ap, take}
use Rattle.std.specs.Prelude.{filter}
use Rattle.oai_item.specs.Item.{ItemState}
use Rattle.oai_item.specs.Items.{items_after}
use Rattle.oai_item.specs.Selection.{Filter, selected}
use Rattle.oai_places.specs.Places.{is_wanted, items_on}
use Rattle.oai_places.proofs.ResultLemmas.{if_ok_map}
use Rattle.oai_places.proofs.InsidePlaces.{wanted_after}
use Rattle.oai_places.proofs.leaves.LeafList.part_after.Goals as goal

pub returns-clause-part : goal.returns-clause-part
returns-clause-part g c =
    let G = g.P.PagePool in
    let p = c.args.pages.now in
    let asked : Filter = c.args.filter.now in
    let items : List ItemState = items_on (G.pages p) c.args.self.places.now in
    if_ok_map (λ (part : List ItemState). IsTrue (G.honest p) → part ≡ take c.args.most (filter (is_wanted asked c.args.key.stamp c.args.key.identifier.now) items))
    (λ (part : List ItemState). IsTrue (G.honest p) → part ≡ take c.args.most (selected asked (items_after c.args.key.stamp c.args.key.identifier.now items))) c.part_wanted.result
    (λ part taken honest. taken honest
    ∙ ap (λ (xs : List ItemState). take c.args.most xs) (wanted_after asked c.args.key.stamp c.args.key.identifier.now items))
    c.part_wanted.ensures.part
