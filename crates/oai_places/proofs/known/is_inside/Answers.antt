use Rattle.std.proofs.Common.{◌≡◌, ◌∙◌, ◌+◌, List, ap, drop, of_z, rules, subst, sym, to_z, w64, ℤ}
use Rattle.std.specs.Ordering.{is_gt}
use Rattle.std.proofs.lemmas.Int.{to_z-of_z}
use Rattle.std.proofs.lemmas.List.{take_rest}
use Rattle.oai_item.specs.Selection.{Filter}
use Rattle.oai_names.specs.Names.{is_among}
use Rattle.oai_places.specs.Parts.{EndsBy}
use Rattle.oai_places.specs.Places.{PlaceState}
use Rattle.oai_places.proofs.WantedPlaces.{greater_from, inside_from, lower_from}
use Rattle.oai_places.proofs.known.is_inside.Goals as goal
use lib.Signed.{lt_z}

pub returns : goal.returns
returns c =
    let asked : Filter = c.args.wanted.filter.now in
    let place : PlaceState = c.index-places-at.result in
    let low : to_z w64 (of_z w64 c.filter.inside.lower) ≡ c.filter.inside.lower = search (rules, to_z-of_z) in
    let high : to_z w64 (of_z w64 c.filter.inside.upper) ≡ c.filter.inside.upper = search (rules, to_z-of_z) in
    let own : to_z w64 (of_z w64 c.stamp.result) ≡ c.stamp.result = to_z-of_z w64 c.stamp.result (record { sfits = c.stamp.type_inv }) in
    λ ends. inside_from c.args.places.now asked c.args.wanted.key.stamp c.args.wanted.key.identifier.now c.args.at place c.requires c.index-places-at.is
    (lower_from c.filter.inside.lower c.stamp.result asked.lower place.stamp (sym (λ i. lt_z (own i) (low i)) ∙ c.if-filter-stamp.false) (ap (λ (f : Filter). f.lower) c.filter.view_is) c.stamp.ensures)
    (ap is_gt (sym c.order_to.ensures) ∙ greater_from c.order_to.result (sym c.ne.ensures ∙ c.if-ne.false))
    (ap (is_among place.prefixes) (sym (c.as_str.ensures.text ∙ ap (λ (f : Filter). f.prefix) c.filter.view_is)) ∙ sym c.has_prefix.ensures ∙ c.if-not-has_prefix.false)
    (subst (λ (u : ℤ). EndsBy (drop (c.args.at + 1) c.args.places.now) u) (high ∙ ap (λ (f : Filter). f.upper) c.filter.view_is)
    (subst (λ (ps : List PlaceState). EndsBy ps (to_z w64 (of_z w64 c.filter.inside.upper))) (take_rest c.args.places.now (c.args.at + 1)) (c.ends_by.ensures ends)))
