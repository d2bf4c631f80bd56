use Rattle.std.proofs.Common.{◌≡◌, ◌∙◌, ◌<◌, ℕ, ℤ, Err, IsTrue, List, None, Option, Some, true, ap, arith, get_or, length, rules, subst, sym}
use Rattle.oai_item.specs.Item.{ItemState}
use Rattle.oai_places.specs.Directory.{items_with_run}
use Rattle.oai_places.specs.Pages.{IsRemoval, fit_one}
use Rattle.oai_places.specs.Places.{Pages, PlaceState, items_at}
use Rattle.oai_places.specs.Searches.{MayBeAt}
use Rattle.oai_paged.proofs.DirectoryChanges.{left_removed, none_removed, stands_read}
use Rattle.oai_places.proofs.DirectoryLemmas.{may_stand_without, no_place}
use Rattle.oai_places.proofs.SpendingLemmas.{err_of, ok_of, spends_failed, spends_ok, spends_read}
use Rattle.oai_paged.specs.declared.changes.Changed.{Changed}
use Rattle.oai_paged.proofs.directories.DirectoryLeaves.take_out_among.Goals as goal

pub leave-requires-clause-may : goal.leave-requires-clause-may
leave-requires-clause-may g c =
    let G = g.P.PagePool in
    let few = c.requires.place.passes no_place in
    let fits : fit_one c.in_ok-old.old ≡ true =
    c.in_ok-old.ensures.fits.fits no_place (omega (arith, few, ap (λ (ps : List PlaceState). length (get_or ps c.args.at no_place).pages) c.as_slice.ensures.value)) in
    let left = rw c.in-Some.is at c.in_ok-entries.ensures.one_page in
    let p = c.args.pages.now in
    let stamp : ℤ = c.args.key.stamp in
    let identifier : List ℕ = c.args.key.identifier.now in
    let before : List PlaceState = c.args.self.now.places.items in
    let old : List ItemState = c.in_ok-old.old in
    let at = c.args.at in
    let within : at < length before = omega (arith, c.requires.place.within, c.args.self.now.places.ok.0) in
    let taken : IsRemoval stamp identifier old c.in_ok-entries.field-0 = c.in_ok-entries.ensures.removal in
    let removal : IsRemoval stamp identifier old (Some c.in-Some.entries) = subst (λ (o : Option (List ItemState)). IsRemoval stamp identifier old o) c.in-Some.is taken in
    let read : MayBeAt before at old = subst (λ (ps : List PlaceState). MayBeAt ps at old) c.as_slice.ensures.value c.in_ok-old.ensures.fits in
    let stands = stands_read G c.read_place.result before p c.read_place.new.pages c.requires.stands c.read_place.ensures.pages in
    record {
      run = record { within = omega (arith, within); few = omega arith };
      fits = left fits;
      order = rw removal.1 (may_stand_without (G.pages c.read_place.new.pages) before stamp identifier at old stands.directory within c.requires.place.belongs read);
    }

pub returns-in_err-changed-in-Some : goal.returns-in_err-changed-in-Some
returns-in_err-changed-in-Some g c =
    let is : c.from_residual-in_err-changed-in-Some.result ≡ Err c.in_err-changed-in-Some.field-0.0 = search rules in
    let G = g.P.PagePool in
    let p = c.args.pages.now in
    let mid = c.read_place.new.pages in
    let q = c.leave.new.pages in
    record {
      list = search rules;
      staged = search rules;
      back = search rules;
      none = search rules;
      err = search rules;
      pool = spends_failed G 1 1 c.in_err-changed-in-Some.field-0.0 c.from_residual-in_err-changed-in-Some.result p q is (omega arith)
          (spends_read G 1 c.read_place.result (err_of Changed c.in_err-changed-in-Some.field-0.0) p mid q c.read_place.ensures.pages c.in_err-changed-in-Some.ensures.pool);
      groups = search rules;
    }

pub returns-in-Some : goal.returns-in-Some
returns-in-Some g c =
    let G = g.P.PagePool in
    let p = c.args.pages.now in
    let stamp : ℤ = c.args.key.stamp in
    let identifier : List ℕ = c.args.key.identifier.now in
    let before : List PlaceState = c.args.self.now.places.items in
    let old : List ItemState = c.in_ok-old.old in
    let at = c.args.at in
    let within : at < length before = omega (arith, c.requires.place.within, c.args.self.now.places.ok.0) in
    let taken : IsRemoval stamp identifier old c.in_ok-entries.field-0 = c.in_ok-entries.ensures.removal in
    let removal : IsRemoval stamp identifier old (Some c.in-Some.entries) = subst (λ (o : Option (List ItemState)). IsRemoval stamp identifier old o) c.in-Some.is taken in
    let changed = c.in_ok-changed-in-Some.changed in
    let same = c.read_place.ensures.pages in
    record {
      list = λ honest.
          let held : old ≡ items_at (G.pages p) (get_or c.as_slice.result.now at no_place) = c.in_ok-old.ensures.items honest no_place in
          let still : IsTrue (G.honest c.read_place.new.pages) = rw same.pool.honesty.same honest in
          left_removed (G.pages p) (G.pages c.leave.new.pages) stamp identifier old c.in-Some.entries at before c.leave.new.self.places.items c.requires.stands.directory within c.requires.place.belongs
          (c.in_ok-changed-in-Some.ensures.list still ∙ ap (λ (pages : Pages). items_with_run pages before at 1 c.in-Some.entries) same.same) (sym removal.0) removal.1
          (held ∙ ap (λ (ps : List PlaceState). items_at (G.pages p) (get_or ps at no_place)) c.as_slice.ensures.value);
      staged = search rules;
      back = search rules;
      none = search rules;
      err = search rules;
      pool = spends_ok G 1 changed (Some changed) p c.leave.new.pages
          (spends_read G 1 c.read_place.result (ok_of changed) p c.read_place.new.pages c.leave.new.pages same c.in_ok-changed-in-Some.ensures.pool);
      groups = search rules;
    }

pub returns : goal.returns
returns g c =
    let G = g.P.PagePool in
    let p = c.args.pages.now in
    let stamp : ℤ = c.args.key.stamp in
    let identifier : List ℕ = c.args.key.identifier.now in
    let before : List PlaceState = c.args.self.now.places.items in
    let old : List ItemState = c.in_ok-old.old in
    let at = c.args.at in
    let within : at < length before = omega (arith, c.requires.place.within, c.args.self.now.places.ok.0) in
    let taken : IsRemoval stamp identifier old c.in_ok-entries.field-0 = c.in_ok-entries.ensures.removal in
    let removal : IsRemoval stamp identifier old None = subst (λ (o : Option (List ItemState)). IsRemoval stamp identifier old o) c.in-None.is taken in
    record {
      list = λ honest.
          let held : old ≡ items_at (G.pages p) (get_or c.as_slice.result.now at no_place) = c.in_ok-old.ensures.items honest no_place in
          none_removed (G.pages p) (G.pages c.read_place.new.pages) stamp identifier old at before c.requires.stands.directory within c.requires.place.belongs removal
          (held ∙ ap (λ (ps : List PlaceState). items_at (G.pages p) (get_or ps at no_place)) c.as_slice.ensures.value) c.read_place.ensures.pages.same;
      staged = search rules;
      back = search rules;
      none = search rules;
      err = search rules;
      pool = search rules;
      groups = search rules;
    }
