use Rattle.std.proofs.Common.{◌∙◌, ap, length, sym}
use Rattle.std.specs.Prelude.{filter}
use Rattle.oai_places.specs.Places.{is_wanted}
use Rattle.oai_places.proofs.DirectoryLemmas.{no_place}
use Rattle.oai_places.proofs.StretchLemmas.{one_place, stretch_few, stretch_number}
use Rattle.oai_places.proofs.leaves.LeafList.count_from.Goals as goal

pub returns-in-Some-clause-number : goal.returns-in-Some-clause-number
returns-in-Some-clause-number g c =
    λ honest. stretch_number (g.P.PagePool.pages c.args.pages.now) c.args.self.places.now c.args.wanted.filter.now c.args.wanted.key.stamp c.args.wanted.key.identifier.now c.args.at c.in-Some.stretch.places c.in-Some.stretch.items
    c.requires.stands.directory c.in-Some.ensures

pub returns-in-Some-clause-few : goal.returns-in-Some-clause-few
returns-in-Some-clause-few g c =
    stretch_few (g.P.PagePool.pages c.args.pages.now) c.args.self.places.now c.args.wanted.filter.now c.args.wanted.key.stamp c.args.wanted.key.identifier.now c.args.at c.in-Some.stretch.places c.in-Some.stretch.items
    c.requires.stands.directory c.in-Some.ensures

pub returns-clause-number : goal.returns-clause-number
returns-clause-number g c =
    let pages = g.P.PagePool.pages c.args.pages.now in
    let p = is_wanted c.args.wanted.filter.now c.args.wanted.key.stamp c.args.wanted.key.identifier.now in
    λ honest. c.in_ok-items.ensures.number honest no_place ∙ ap (λ xs. length (filter p xs)) (sym (one_place pages c.args.self.places.now c.args.at no_place c.requires.within))
