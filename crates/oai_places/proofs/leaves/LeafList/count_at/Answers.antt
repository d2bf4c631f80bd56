use Rattle.std.proofs.Common.{arith}
use Rattle.oai_places.proofs.InsidePlaces.{known_counted, known_few}
use Rattle.oai_places.proofs.leaves.LeafList.count_at.Goals as goal

pub returns-in-Some-clause-number : goal.returns-in-Some-clause-number
returns-in-Some-clause-number g c =
    λ honest d. known_counted (g.P.PagePool.pages c.args.pages.now) c.args.self.places.now c.args.wanted.filter.now c.args.wanted.key.stamp c.args.wanted.key.identifier.now c.args.at c.in-Some.count
    c.requires.stands.directory c.requires.within (rw c.in-Some.is at c.known_at.ensures.count) d

pub returns-in-Some-clause-few : goal.returns-in-Some-clause-few
returns-in-Some-clause-few g c =
    omega (
      arith,
      known_few (g.P.PagePool.pages c.args.pages.now) c.args.self.places.now c.args.wanted.filter.now c.args.wanted.key.stamp c.args.wanted.key.identifier.now c.args.at c.in-Some.count
          c.requires.stands.directory c.requires.within (rw c.in-Some.is at c.known_at.ensures.count),
    )

pub returns-clause-few : goal.returns-clause-few
returns-clause-few g c = omega (arith, c.count_in.ensures.few, c.in_ok-entries.ensures.fits.page.few)
