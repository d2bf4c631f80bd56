use Rattle.std.proofs.Common.{◌≡◌, ◌∙◌, ◌+◌, ◌-◌, ◌++◌, ◌<◌, List, ap, arith, length, subst, sym}
use Rattle.oai_item.specs.Item.{ItemState}
use Rattle.oai_item.specs.Order.{are_in_order}
use Rattle.oai_places.specs.Directory.{MayStand, items_with_run}
use Rattle.oai_places.specs.Places.{Pages, PlaceState}
use Rattle.oai_places.proofs.DirectoryLemmas.{no_place}
use Rattle.oai_paged.proofs.MergeLemmas.{before-items, before-order}
use Rattle.oai_paged.proofs.merging.with_before.Goals as goal

pub returns-in-Some-clause-may : goal.returns-in-Some-clause-may
returns-in-Some-clause-may g c =
    let pages = g.P.PagePool.pages c.args.pages.now in
    let places : List PlaceState = c.args.places.now in
    let at = c.args.merged.at - 1 in
    let len = c.args.merged.len in
    let es : List ItemState = c.args.merged.entries in
    let next : c.args.merged.at ≡ at + 1 = omega (arith, c.if-merged-eq0.false) in
    let within : at < length places = omega (arith, next, c.requires.may.run.within) in
    let stand = subst (λ n. MayStand pages places n len es) next c.requires.may.order in
    let rising = ap are_in_order (sym c.in-Some.ensures.all) ∙ c.in-Some.ensures.rising in
    let order = before-order pages places at len c.in-Ok.front es c.requires.stands.directory within c.in-Ok.ensures.fits stand rising in
    record {
      run = record { within = omega (arith, next, c.requires.may.run.within); few = omega (arith, c.requires.few) };
      fits = c.in-Some.ensures.one_page;
      order = subst (λ (ps : Pages). MayStand ps places at (len + 1) c.in-Some.entries) (sym c.in-Ok.ensures.pages.same)
          (subst (λ (items : List ItemState). MayStand pages places at (len + 1) items) (sym c.in-Some.ensures.all) order);
    }

pub returns-in-Some-clause-items : goal.returns-in-Some-clause-items
returns-in-Some-clause-items g c =
    let pages = g.P.PagePool.pages c.args.pages.now in
    let places : List PlaceState = c.args.places.now in
    let at = c.args.merged.at - 1 in
    let len = c.args.merged.len in
    let es : List ItemState = c.args.merged.entries in
    let next : c.args.merged.at ≡ at + 1 = omega (arith, c.if-merged-eq0.false) in
    let within : at < length places = omega (arith, next, c.requires.may.run.within) in
    λ honest.
    ap (λ (ps : Pages). items_with_run ps places at (len + 1) c.in-Some.entries) c.in-Ok.ensures.pages.same
    ∙ ap (λ (items : List ItemState). items_with_run pages places at (len + 1) items) c.in-Some.ensures.all
    ∙ before-items pages places at len c.in-Ok.front es within (c.in-Ok.ensures.items honest no_place)
    ∙ ap (λ n. items_with_run pages places n len es) (sym next)
