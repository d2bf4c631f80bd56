use Rattle.std.proofs.Common.{List, subst, sym}
use Rattle.oai_item.specs.Item.{ItemState}
use Rattle.oai_places.specs.Parts.{IsPartTaken}
use Rattle.oai_places.specs.Places.{is_wanted}
use Rattle.oai_places.proofs.DirectoryLemmas.{no_place}
use Rattle.oai_places.proofs.StretchLemmas.{one_place, stretch_past}
use Rattle.oai_places.proofs.leaves.LeafList.take_from.Goals as goal

pub returns-then-portion-stretch-clause-taken : goal.returns-then-portion-stretch-clause-taken
returns-then-portion-stretch-clause-taken g c =
    λ honest. stretch_past (g.P.PagePool.pages c.args.pages.now) c.args.self.places.now c.args.portion.wanted.filter.now c.args.portion.wanted.key.stamp c.args.portion.wanted.key.identifier.now c.args.at c.in-Some.stretch.places c.in-Some.stretch.items
    c.args.portion.most c.args.part.now.items c.args.portion.skip c.requires.stands.directory c.if-portion-stretch.true c.in-Some.ensures

pub returns-clause-taken : goal.returns-clause-taken
returns-clause-taken g c =
    let pages = g.P.PagePool.pages c.args.pages.now in
    let p = is_wanted c.args.portion.wanted.filter.now c.args.portion.wanted.key.stamp c.args.portion.wanted.key.identifier.now in
    λ honest. subst (λ (xs : List ItemState). IsPartTaken p c.args.portion.most c.args.part.now.items c.take_at.new.part.items c.args.portion.skip c.in_ok-left.left xs)
    (sym (one_place pages c.args.self.places.now c.args.at no_place c.requires.within)) (c.in_ok-left.ensures.taken honest no_place)
