use Rattle.std.proofs.Common.{◌≡◌, ◌∙◌, ◌+◌, ◌++◌, ◌<◌, List, ap, arith, length, subst, sym}
use Rattle.oai_item.specs.Item.{ItemState}
use Rattle.oai_item.specs.Order.{are_in_order}
use Rattle.oai_places.specs.Directory.{MayStand, items_with_run}
use Rattle.oai_places.specs.Places.{Pages, PlaceState}
use Rattle.oai_places.proofs.DirectoryLemmas.{no_place}
use Rattle.oai_paged.proofs.MergeLemmas.{behind-items, behind-order}
use Rattle.oai_paged.proofs.merging.with_behind.Goals as goal

pub returns-in-Some-clause-may : goal.returns-in-Some-clause-may
returns-in-Some-clause-may g c =
    let pages = g.P.PagePool.pages c.args.pages.now in
    let places : List PlaceState = c.args.places.now in
    let at = c.args.merged.at in
    let len = c.args.merged.len in
    let es : List ItemState = c.args.merged.entries in
    let within : at + len < length places = omega (arith, c.if-at-places.false) in
    let rising = ap are_in_order (sym c.in-Some.ensures.all) ∙ c.in-Some.ensures.rising in
    let order = behind-order pages places at len es c.in-Ok.back c.requires.stands.directory within c.in-Ok.ensures.fits c.requires.may.order rising in
    record {
      run = record { within = omega (arith, within); few = omega (arith, c.requires.few) };
      fits = c.in-Some.ensures.one_page;
      order = subst (λ (ps : Pages). MayStand ps places at (len + 1) c.in-Some.entries) (sym c.in-Ok.ensures.pages.same)
          (subst (λ (items : List ItemState). MayStand pages places at (len + 1) items) (sym c.in-Some.ensures.all) order);
    }

pub returns-in-Some-clause-items : goal.returns-in-Some-clause-items
returns-in-Some-clause-items g c =
    let pages = g.P.PagePool.pages c.args.pages.now in
    let places : List PlaceState = c.args.places.now in
    let at = c.args.merged.at in
    let len = c.args.merged.len in
    let es : List ItemState = c.args.merged.entries in
    let within : at + len < length places = omega (arith, c.if-at-places.false) in
    λ honest.
    ap (λ (ps : Pages). items_with_run ps places at (len + 1) c.in-Some.entries) c.in-Ok.ensures.pages.same
    ∙ ap (λ (items : List ItemState). items_with_run pages places at (len + 1) items) c.in-Some.ensures.all
    ∙ behind-items pages places at len es c.in-Ok.back within (c.in-Ok.ensures.items honest no_place)
