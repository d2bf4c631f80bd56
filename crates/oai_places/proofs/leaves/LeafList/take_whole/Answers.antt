use Rattle.std.proofs.Common.{◌≡◌, List, get_or, subst, sym, true}
use Rattle.std.specs.List.{list_all}
use Rattle.oai_item.specs.Item.{ItemState}
use Rattle.oai_places.specs.Parts.{IsPartTaken}
use Rattle.oai_places.specs.Places.{is_wanted, items_at}
use Rattle.oai_places.proofs.InsidePlaces.{all_known}
use Rattle.oai_places.proofs.leaves.LeafList.take_whole.Goals as goal

pub returns-clause-taken : goal.returns-clause-taken
returns-clause-taken g c =
    let pages = g.P.PagePool.pages c.args.pages.now in
    let places = c.args.self.places.now in
    let asked = c.args.portion.wanted.filter.now in
    let stamp = c.args.portion.wanted.key.stamp in
    let identifier = c.args.portion.wanted.key.identifier.now in
    let p = is_wanted asked stamp identifier in
    λ honest d.
    let held : c.in_ok-entries.entries ≡ items_at pages (get_or places c.args.at d) = c.in_ok-entries.ensures.items honest d in
    subst (λ (xs : List ItemState). IsPartTaken p c.args.portion.most c.args.part.now.items c.take_all.new.part.items c.args.portion.skip c.in_ok-take_all.field-0 xs) held
    (c.in_ok-take_all.ensures (subst (λ (xs : List ItemState). list_all p xs ≡ true) (sym held)
    (all_known pages places asked stamp identifier c.args.at d c.requires.stands.directory c.requires.within (c.requires.known d))))
