use Rattle.std.proofs.Common.{◌∙◌, Some, ap, inl, inr, refl, sym}
use Rattle.std.specs.Option.{option_flatten, option_map}
use Rattle.oai_item.specs.Selection.{Filter}
use Rattle.oai_places.specs.Places.{span_at}
use Rattle.oai_places.proofs.InsidePlaces.{known_from, pickable_if}
use Rattle.oai_places.proofs.known.known_at.Goals as goal

pub returns-then-is_outside-clause-count : goal.returns-then-is_outside-clause-count
returns-then-is_outside-clause-count c = inl (c.is_outside.ensures c.if-is_outside.true, refl)

pub returns-then-items-eq0-clause-count : goal.returns-then-items-eq0-clause-count
returns-then-items-eq0-clause-count c =
    known_from c.args.places.now c.args.wanted.filter.now c.args.wanted.key.stamp c.args.wanted.key.identifier.now c.args.at 0 c.index-places-at.result c.filter.inside.set c.requires c.index-places-at.is
    (sym c.items_of.ensures.count ∙ ap (option_map (λ i. i.count)) c.in-Some.is ∙ ap Some c.if-items-eq0.true) (ap (λ (f : Filter). f.set) c.filter.view_is) (inl refl)

pub returns-then-is_inside-clause-count : goal.returns-then-is_inside-clause-count
returns-then-is_inside-clause-count c =
    known_from c.args.places.now c.args.wanted.filter.now c.args.wanted.key.stamp c.args.wanted.key.identifier.now c.args.at c.in-Some.items.count c.index-places-at.result c.filter.inside.set c.requires c.index-places-at.is
    (sym c.items_of.ensures.count ∙ ap (option_map (λ i. i.count)) c.in-Some.is) (ap (λ (f : Filter). f.set) c.filter.view_is) (inr (c.is_inside.ensures c.if-is_inside.true))

pub returns-then-items-eq0-clause-span : goal.returns-then-items-eq0-clause-span
returns-then-items-eq0-clause-span c =
    pickable_if c.args.places.now c.args.at c.index-places-at.result c.args.wanted.filter.now.set c.in-Some.items.span c.sparse_span-span.result c.requires c.index-places-at.is
    (ap (λ (f : Filter). span_at c.index-places-at.result f.set) (sym c.filter.view_is) ∙ sym c.items_of.ensures.span ∙ ap (λ o. option_flatten (option_map (λ i. i.span) o)) c.in-Some.is) c.sparse_span-span.ensures

pub returns-then-is_inside-clause-span : goal.returns-then-is_inside-clause-span
returns-then-is_inside-clause-span c =
    pickable_if c.args.places.now c.args.at c.index-places-at.result c.args.wanted.filter.now.set c.in-Some.items.span c.sparse_span-span.result c.requires c.index-places-at.is
    (ap (λ (f : Filter). span_at c.index-places-at.result f.set) (sym c.filter.view_is) ∙ sym c.items_of.ensures.span ∙ ap (λ o. option_flatten (option_map (λ i. i.span) o)) c.in-Some.is) c.sparse_span-span.ensures

pub returns-clause-span : goal.returns-clause-span
returns-clause-span c =
    pickable_if c.args.places.now c.args.at c.index-places-at.result c.args.wanted.filter.now.set c.in-Some.items.span c.sparse_span-span.result c.requires c.index-places-at.is
    (ap (λ (f : Filter). span_at c.index-places-at.result f.set) (sym c.filter.view_is) ∙ sym c.items_of.ensures.span ∙ ap (λ o. option_flatten (option_map (λ i. i.span) o)) c.in-Some.is) c.sparse_span-span.ensures
