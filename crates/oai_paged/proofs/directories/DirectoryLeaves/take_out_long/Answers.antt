use Rattle.std.proofs.Common.{◌≡◌, ◌∙◌, ◌<◌, ℕ, ℤ, Err, List, Some, Equal, false, ap, arith, get_or, length, refl, rules, subst, sym}
use Rattle.std.specs.Ordering.{is_eq}
use Rattle.std.proofs.lemmas.List.{get_or_read}
use Rattle.oai_item.specs.Item.{ItemState}
use Rattle.oai_places.specs.Directory.{MayStand, items_with_run}
use Rattle.oai_places.specs.Places.{PlaceState, first_cmp, items_at}
use Rattle.oai_paged.proofs.DirectoryChanges.{none_removed}
use Rattle.oai_places.proofs.DirectoryLemmas.{no_place, placed-cut}
use Rattle.oai_paged.proofs.LoneLemmas.{equal_from, lone_removed, may_stand_left, unequal_from}
use Rattle.oai_places.proofs.LoneItems.{lone, lone_other}
use Rattle.oai_places.proofs.ShortLemmas.{fit-nil}
use Rattle.oai_places.proofs.SpendingLemmas.{spends_failed, spends_ok}
use Rattle.oai_places.specs.Pages.{fit_one}
use Rattle.oai_paged.proofs.directories.DirectoryLeaves.take_out_long.Goals as goal

pub returns-then-ne : goal.returns-then-ne
returns-then-ne g c =
    let G = g.P.PagePool in
    let p = c.args.pages.now in
    let pages = G.pages p in
    let places : List PlaceState = c.args.self.now.places.items in
    let at = c.args.at in
    let stamp : ℤ = c.args.key.stamp in
    let identifier : List ℕ = c.args.key.identifier.now in
    let within : at < length places = omega (arith, c.requires.place.within, c.args.self.now.places.ok.0) in
    let place : PlaceState = get_or places at no_place in
    let here : c.index.result.now ≡ place = get_or_read places at c.index.result.now within c.index.ensures no_place in
    let one = lone pages place (placed-cut pages places at no_place within c.requires.stands.directory.placed).0 (c.requires.place.passes no_place) in
    let seen : c.order_to.result ≡ first_cmp place stamp identifier =
    c.order_to.ensures ∙ (λ i. first_cmp (here i) stamp identifier) in
    let other : is_eq (first_cmp place stamp identifier) ≡ false = ap is_eq (sym seen) ∙ unequal_from c.order_to.result (sym c.ne.ensures ∙ c.if-ne.true) in
    record {
      list = λ honest. none_removed pages pages stamp identifier (items_at pages place) at places c.requires.stands.directory within c.requires.place.belongs
          (lone_other pages places stamp identifier at c.requires.stands.directory within c.requires.place.belongs one other) refl refl;
      staged = search rules;
      back = search rules;
      none = search rules;
      err = search rules;
      pool = search rules;
      groups = search rules;
    }

pub leave-requires-clause-may : goal.leave-requires-clause-may
leave-requires-clause-may g c =
    let G = g.P.PagePool in
    let p = c.args.pages.now in
    let pages = G.pages p in
    let places : List PlaceState = c.args.self.now.places.items in
    let at = c.args.at in
    let stamp : ℤ = c.args.key.stamp in
    let identifier : List ℕ = c.args.key.identifier.now in
    let within : at < length places = omega (arith, c.requires.place.within, c.args.self.now.places.ok.0) in
    let place : PlaceState = get_or places at no_place in
    let here : c.index.result.now ≡ place = get_or_read places at c.index.result.now within c.index.ensures no_place in
    let one = lone pages place (placed-cut pages places at no_place within c.requires.stands.directory.placed).0 (c.requires.place.passes no_place) in
    let seen : c.order_to.result ≡ first_cmp place stamp identifier =
    c.order_to.ensures ∙ (λ i. first_cmp (here i) stamp identifier) in
    let same : first_cmp place stamp identifier ≡ Equal = sym seen ∙ equal_from c.order_to.result (sym c.ne.ensures ∙ c.if-ne.false) in
    record {
      run = record { within = omega (arith, within); few = omega arith };
      fits = ap fit_one c.new.ensures ∙ fit-nil;
      order = subst (λ (es : List ItemState). MayStand pages places at 1 es) (sym c.new.ensures) (may_stand_left pages places stamp identifier at c.requires.stands.directory within c.requires.place.belongs one same);
    }

pub returns-in_err-changed : goal.returns-in_err-changed
returns-in_err-changed g c =
    let is : c.from_residual.result ≡ Err c.in_err-changed.field-0.0 = search rules in
    record {
      list = search rules;
      staged = search rules;
      back = search rules;
      none = search rules;
      err = search rules;
      pool = spends_failed g.P.PagePool 1 1 c.in_err-changed.field-0.0 c.from_residual.result c.args.pages.now c.leave.new.pages is (omega arith) c.in_err-changed.ensures.pool;
      groups = search rules;
    }

pub returns : goal.returns
returns g c =
    let G = g.P.PagePool in
    let p = c.args.pages.now in
    let pages = G.pages p in
    let places : List PlaceState = c.args.self.now.places.items in
    let at = c.args.at in
    let stamp : ℤ = c.args.key.stamp in
    let identifier : List ℕ = c.args.key.identifier.now in
    let within : at < length places = omega (arith, c.requires.place.within, c.args.self.now.places.ok.0) in
    let place : PlaceState = get_or places at no_place in
    let here : c.index.result.now ≡ place = get_or_read places at c.index.result.now within c.index.ensures no_place in
    let one = lone pages place (placed-cut pages places at no_place within c.requires.stands.directory.placed).0 (c.requires.place.passes no_place) in
    let seen : c.order_to.result ≡ first_cmp place stamp identifier =
    c.order_to.ensures ∙ (λ i. first_cmp (here i) stamp identifier) in
    let same : first_cmp place stamp identifier ≡ Equal = sym seen ∙ equal_from c.order_to.result (sym c.ne.ensures ∙ c.if-ne.false) in
    let q = c.leave.new.pages in
    let changed = c.in_ok-changed.changed in
    let after : List PlaceState = c.leave.new.self.places.items in
    record {
      list = λ honest. lone_removed pages (G.pages q) stamp identifier at places after c.requires.stands.directory within c.requires.place.belongs one same
          (c.in_ok-changed.ensures.list honest ∙ ap (λ (es : List ItemState). items_with_run pages places at 1 es) c.new.ensures);
      staged = search rules;
      back = search rules;
      none = search rules;
      err = search rules;
      pool = spends_ok G 1 changed (Some changed) p q c.in_ok-changed.ensures.pool;
      groups = search rules;
    }
