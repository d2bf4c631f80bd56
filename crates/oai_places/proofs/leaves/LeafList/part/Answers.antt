use Rattle.std.proofs.Common.{◌≡◌, ◌∙◌, IsTrue, List, ap, drop, take}
use Rattle.std.specs.Prelude.{filter}
use Rattle.oai_item.specs.Item.{ItemState}
use Rattle.oai_item.specs.Selection.{selected}
use Rattle.oai_places.specs.Places.{is_wanted, items_on}
use Rattle.oai_places.proofs.ResultLemmas.{if_ok_map}
use Rattle.oai_places.proofs.InsidePlaces.{wanted_all}
use Rattle.oai_places.proofs.leaves.LeafList.part.Goals as goal

pub returns-clause-part : goal.returns-clause-part
returns-clause-part g c =
    let G = g.P.PagePool in
    let pages = G.pages c.args.pages.now in
    let p = is_wanted c.all-wanted.result.filter.now c.all-wanted.result.key.stamp c.all-wanted.result.key.identifier.now in
    if_ok_map (λ (part : List ItemState). IsTrue (G.honest c.args.pages.now) → part ≡ take c.args.most (drop c.args.skip (filter p (items_on pages c.args.self.places.now))))
    (λ (part : List ItemState). IsTrue (G.honest c.args.pages.now) → part ≡ take c.args.most (drop c.args.skip (selected c.args.filter.now (items_on pages c.args.self.places.now)))) c.part_wanted.result
    (λ part taken honest. taken honest ∙ ap (λ xs. take c.args.most (drop c.args.skip xs)) (wanted_all p c.args.filter.now pages c.args.self.places.now c.requires.stands.directory.placed c.all-wanted.ensures))
    c.part_wanted.ensures.part
