use Rattle.std.proofs.Common.{◌≡◌, ◌≤◌, ◌/◌, List, arith, inl, length, take}
use Rattle.oai_item.specs.Item.{ItemState}
use Rattle.oai_places.specs.Pages.{between, size_of}
use Rattle.oai_places.proofs.CutLemmas.{size_of-rest, third_fits}
use Rattle.oai_places.proofs.PageLemmas.{size_of-nil}
use Rattle.oai_places.proofs.ShortLemmas.{fit_from, fit_parts, short-between}
use Rattle.oai_places.proofs.entries.Entries.cuts.Goals as goal
use Rattle.oai_places.proofs.entries.Entries.cuts.Goals.{then-fills, else-fills}

pub returns : goal.returns
returns c =
    let items : List ItemState = c.args.self.now in
    let low : c.size-half.result / 2 ≤ c.if-fills.goal =
    elim c.if-fills.branch [
      | then-fills w ↦ omega (arith, w.goal-is, w.max-goal.ensures)
      | else-fills w ↦ omega (arith, w.goal-is)
    ]
    in
    let first = c.front-first.ensures in
    let second = c.front-second.ensures in
    record {
      first_below = second.place.above;
      second_below = second.place.within;
      one = fit_from (between 0 c.front-first.result items) first.fits (short-between 0 c.front-first.result items c.requires.short);
      two = inl (fit_from (between c.front-first.result c.front-second.result items) second.fits (short-between c.front-first.result c.front-second.result items c.requires.short));
      three = fit_from (between c.front-second.result (length items) items)
          (third_fits items c.front-first.result c.front-second.result c.if-fills.goal c.requires.size (omega (arith, low, c.size-half.ensures)) second.place.above second.place.within second.some first.most)
          (short-between c.front-second.result (length items) items c.requires.short);
      whole = λ fits.
          let none : size_of (take 0 items) ≡ 0 = size_of-nil in
          first.whole (omega (arith, (fit_parts items fits).0, none, size_of-rest items 0 (omega arith)));
    }
