use Rattle.std.proofs.Common.{◌∙◌, ◌<◌, ap, arith, length, sym}
use Rattle.std.specs.Prelude.{sum_by}
use Rattle.std.proofs.lemmas.List.{take_all}
use Rattle.std.proofs.lemmas.List.Sums.{sum_by_more}
use Rattle.oai_places.specs.Places.{PlaceState}
use Rattle.oai_places.proofs.sums.items_of.Goals as goal

pub places-preserved : goal.places-preserved
places-preserved c =
    let own : PlaceState = c.index-places-at.result in
    let within : c.places.at < length c.args.places.now = omega (arith, c.places-test.true) in
    omega (
      arith,
      sum_by_more (λ (place : PlaceState). place.len) c.args.places.now c.places.at own within,
      ap (λ (place : PlaceState). place.len) c.index-places-at.is,
      c.places.invariant,
      c.len.ensures,
      c.in_ok-items.ensures,
    )

pub returns : goal.returns
returns c =
    ap (λ ps. sum_by (λ (place : PlaceState). place.len) ps) (sym (take_all c.places.at c.args.places.now (omega (arith, c.places-test.false)))) ∙ c.places.invariant
