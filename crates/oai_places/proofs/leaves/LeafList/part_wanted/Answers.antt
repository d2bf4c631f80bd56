use Rattle.std.specs.Prelude.{filter}
use Rattle.std.proofs.Common.{◌≡◌, Err, ◌∙◌, ◌-◌, List, ap, arith, drop, length, of_z, rules, sym, take, to_z, w64}
use Rattle.std.proofs.lemmas.Int.{to_z-of_z}
use Rattle.oai_item.specs.Item.{ItemState}
use Rattle.oai_item.specs.Selection.{Filter}
use Rattle.oai_places.specs.Places.{is_wanted, items_on}
use Rattle.oai_places.proofs.HaveReadLemmas.{read_failed, read_more, read_none, stands_read}
use Rattle.oai_places.proofs.PartLemmas.{part_ends, part_full}
use Rattle.oai_places.proofs.StretchLemmas.{starts_within, taking_on}
use Rattle.oai_places.proofs.WantedPlaces.{none_late, taking_starts, wanted_end}
use Rattle.oai_places.proofs.leaves.LeafList.part_wanted.Goals.{else-places-test, then-places-test+then-len-most, then-places-test+else-len-most+then-stamp-filter}
use Rattle.oai_places.proofs.leaves.LeafList.part_wanted.Goals as goal
use lib.Signed.{lt_z}

pub places-init : goal.places-init
places-init g c = record {
  read = read_none g.P.PagePool c.args.pages.now;
  part = λ honest. taking_starts (g.P.PagePool.pages c.args.pages.now) c.args.self.places.now c.args.portion.wanted.filter.now c.args.portion.wanted.key.stamp c.args.portion.wanted.key.identifier.now c.start_of-at.result c.args.portion.most c.args.portion.skip
      c.new-part.result.items c.requires.stands.directory c.start_of-at.ensures c.new-part.ensures.items;
  within = starts_within c.args.self.places.now c.args.portion.wanted.filter.now c.args.portion.wanted.key.stamp c.args.portion.wanted.key.identifier.now c.start_of-at.result c.start_of-at.ensures;
}

pub take_from-requires-clause-stands : goal.take_from-requires-clause-stands
take_from-requires-clause-stands g c = stands_read g.P.PagePool c.args.self.places.now c.args.pages.now c.places.pages c.places.invariant.read c.requires.stands

pub returns-in_err-taken-clause-pages : goal.returns-in_err-taken-clause-pages
returns-in_err-taken-clause-pages g c =
    let is : c.from_residual.result ≡ Err c.in_err-taken.field-0.0 = search rules in
    read_failed g.P.PagePool c.from_residual.result c.in_err-taken.field-0.0 c.args.pages.now c.places.pages c.take_from.new.pages is c.places.invariant.read c.in_err-taken.ensures.pages

pub places-preserved : goal.places-preserved
places-preserved g c =
    let G = g.P.PagePool in
    let p = is_wanted c.args.portion.wanted.filter.now c.args.portion.wanted.key.stamp c.args.portion.wanted.key.identifier.now in
    let pages = G.pages c.args.pages.now in
    let so_far = c.places.invariant in
    record {
      read = read_more G c.take_from.result c.args.pages.now c.places.pages c.take_from.new.pages so_far.read c.take_from.ensures.pages;
      part = λ honest. taking_on p pages (G.pages c.places.pages) c.args.self.places.now c.places.at c.in_ok-taken.taken.places c.args.portion.most c.places.left c.in_ok-taken.taken.left c.places.part.items
          c.take_from.new.part.items (take c.args.portion.most (drop c.args.portion.skip (filter p (items_on pages c.args.self.places.now)))) so_far.read.same (so_far.part honest)
          (c.in_ok-taken.ensures.taken (so_far.read.honesty ∙ honest));
      within = c.in_ok-taken.ensures.end;
    }

pub returns-clause-part : goal.returns-clause-part
returns-clause-part g c =
    let asked : Filter = c.args.portion.wanted.filter.now in
    let p = is_wanted asked c.args.portion.wanted.key.stamp c.args.portion.wanted.key.identifier.now in
    let pages = g.P.PagePool.pages c.args.pages.now in
    let part : List ItemState = c.places.part.items in
    let more = c.args.portion.most - length part in
    let left : List ItemState = filter p (items_on pages (drop c.places.at c.args.self.places.now)) in
    let whole : List ItemState = take c.args.portion.most (drop c.args.portion.skip (filter p (items_on pages c.args.self.places.now))) in
    λ honest. c.new.ensures ∙ (elim c.places-test.branch [
      | else-places-test w ↦
          part_ends more c.places.left part left whole (wanted_end p pages c.args.self.places.now c.places.at (omega (arith, w.places-test.false))) (c.places.invariant.part honest)
      | then-places-test+then-len-most w ↦
          part_full c.args.portion.most part (drop c.places.left left) whole (omega (arith, w.if-len-most.true, w.len.ensures, c.places.part.ok.0)) (c.places.invariant.part honest)
      | then-places-test+else-len-most+then-stamp-filter w ↦
          let high : to_z w64 (of_z w64 c.filter.inside.upper) ≡ c.filter.inside.upper = search (rules, to_z-of_z) in
          part_ends more c.places.left part left whole
          (none_late pages c.args.self.places.now asked c.args.portion.wanted.key.stamp c.args.portion.wanted.key.identifier.now c.places.at w.index-places-at.result c.filter.inside.upper w.stamp.result c.requires.stands.directory
          (omega (arith, w.places-test.true)) w.index-places-at.is
          (sym (λ i. lt_z (high i) (to_z-of_z w64 w.stamp.result (record { sfits = w.stamp.type_inv }) i)) ∙ w.if-stamp-filter.true) (ap (λ (f : Filter). f.upper) c.filter.view_is) w.stamp.ensures)
          (c.places.invariant.part honest)
    ])
