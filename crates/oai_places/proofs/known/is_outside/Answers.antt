use Rattle.std.proofs.Common.{◌≡◌, ◌∙◌, ◌<◌, ap, false, inr, length, subst, sym}
use Rattle.std.specs.Ordering.{is_gt}
use Rattle.std.proofs.lemmas.Bool.{ltb-true}
use Rattle.std.proofs.lemmas.List.{get_or_read}
use Rattle.oai_places.specs.Places.{PlaceState, first_cmp}
use Rattle.oai_places.proofs.WantedPlaces.{not_greater_from}
use Rattle.oai_places.proofs.known.is_outside.Goals as goal

pub returns : goal.returns
returns c =
    let place : PlaceState = c.index-places-at.result in
    let long : 1 < length place.pages = ltb-true 1 (length place.pages) (sym c.is_long.ensures ∙ c.if-not-is_long.false) in
    λ test.
    let early : is_gt (first_cmp place c.args.wanted.key.stamp c.args.wanted.key.identifier.now) ≡ false =
    ap is_gt (sym c.order_to.ensures) ∙ not_greater_from c.order_to.result (sym c.ne.ensures ∙ test) in
    record {
      long = λ d. subst (λ (q : PlaceState). 1 < length q.pages) (get_or_read c.args.places.now c.args.at place c.requires c.index-places-at.is d) long;
      out = λ d. inr (subst (λ (q : PlaceState). is_gt (first_cmp q c.args.wanted.key.stamp c.args.wanted.key.identifier.now) ≡ false) (get_or_read c.args.places.now c.args.at place c.requires c.index-places-at.is d) early);
    }
