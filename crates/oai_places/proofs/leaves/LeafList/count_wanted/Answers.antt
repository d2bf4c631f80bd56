use Rattle.std.proofs.Common.{◌≡◌, ◌∙◌, ◌<◌, ap, arith, drop, length, of_z, rules, sym, to_z, w64}
use Rattle.std.specs.Prelude.{filter}
use Rattle.std.proofs.lemmas.Int.{to_z-of_z}
use Rattle.oai_item.specs.Selection.{Filter}
use Rattle.oai_places.specs.Places.{is_wanted, items_on}
use Rattle.oai_places.proofs.HaveReadLemmas.{read_more, read_none}
use Rattle.oai_places.proofs.StretchLemmas.{counting_on, starts_within}
use Rattle.oai_places.proofs.WantedPlaces.{counting_ends, counting_starts, none_late, wanted_end}
use Rattle.oai_places.proofs.leaves.LeafList.count_wanted.Goals as goal
use lib.Signed.{lt_z}

pub places-init : goal.places-init
places-init g c = record {
  read = read_none g.P.PagePool c.args.pages.now;
  number = λ honest. counting_starts (g.P.PagePool.pages c.args.pages.now) c.args.self.places.now c.args.wanted.filter.now c.args.wanted.key.stamp c.args.wanted.key.identifier.now c.start_of-at.result
      c.requires.stands.directory c.start_of-at.ensures;
  few = omega arith;
  within = starts_within c.args.self.places.now c.args.wanted.filter.now c.args.wanted.key.stamp c.args.wanted.key.identifier.now c.start_of-at.result c.start_of-at.ensures;
}

pub places-preserved : goal.places-preserved
places-preserved g c =
    let G = g.P.PagePool in
    let p = is_wanted c.args.wanted.filter.now c.args.wanted.key.stamp c.args.wanted.key.identifier.now in
    let pages = G.pages c.args.pages.now in
    let so_far = c.places.invariant in
    let stretch = c.in_ok-stretch.stretch in
    record {
      read = read_more G c.count_from.result c.args.pages.now c.places.pages c.count_from.new.pages so_far.read c.count_from.ensures.pages;
      number = λ honest. counting_on p pages (G.pages c.places.pages) c.args.self.places.now c.places.at stretch.places c.places.total stretch.items (length (filter p (items_on pages c.args.self.places.now)))
          so_far.read.same (so_far.number honest) (c.in_ok-stretch.ensures.number (so_far.read.honesty ∙ honest));
      few = omega (arith, so_far.few, c.in_ok-stretch.ensures.few);
      within = c.in_ok-stretch.ensures.end;
    }

pub returns-after-places-clause-number : goal.returns-after-places-clause-number
returns-after-places-clause-number g c =
    let p = is_wanted c.args.wanted.filter.now c.args.wanted.key.stamp c.args.wanted.key.identifier.now in
    let pages = g.P.PagePool.pages c.args.pages.now in
    λ honest. counting_ends c.places.total (length (filter p (items_on pages c.args.self.places.now))) (filter p (items_on pages (drop c.places.at c.args.self.places.now)))
    (wanted_end p pages c.args.self.places.now c.places.at (omega (arith, c.places-test.false))) (c.places.invariant.number honest)

pub returns-then-stamp-filter-clause-number : goal.returns-then-stamp-filter-clause-number
returns-then-stamp-filter-clause-number g c =
    let asked : Filter = c.args.wanted.filter.now in
    let p = is_wanted asked c.args.wanted.key.stamp c.args.wanted.key.identifier.now in
    let pages = g.P.PagePool.pages c.args.pages.now in
    let high : to_z w64 (of_z w64 c.filter.inside.upper) ≡ c.filter.inside.upper = search (rules, to_z-of_z) in
    let own : to_z w64 (of_z w64 c.stamp.result) ≡ c.stamp.result = to_z-of_z w64 c.stamp.result (record { sfits = c.stamp.type_inv }) in
    let within : c.places.at < length c.args.self.places.now = omega (arith, c.places-test.true) in
    λ honest. counting_ends c.places.total (length (filter p (items_on pages c.args.self.places.now))) (filter p (items_on pages (drop c.places.at c.args.self.places.now)))
    (none_late pages c.args.self.places.now asked c.args.wanted.key.stamp c.args.wanted.key.identifier.now c.places.at c.index-places-at.result c.filter.inside.upper c.stamp.result c.requires.stands.directory within
    c.index-places-at.is (sym (λ i. lt_z (high i) (own i)) ∙ c.if-stamp-filter.true) (ap (λ (f : Filter). f.upper) c.filter.view_is) c.stamp.ensures)
    (c.places.invariant.number honest)
