use Rattle.std.proofs.Common.{◌≡◌, ◌∙◌, ◌<◌, IsTrue, List, ap, arith, get_or, length, rules, subst}
use Rattle.oai_item.specs.Item.{ItemState}
use Rattle.oai_item.specs.Items.{with_item}
use Rattle.oai_paged.specs.Changes.{IsDirectoryChanged}
use Rattle.oai_places.specs.Places.{PlaceState, items_at, items_on}
use Rattle.oai_places.specs.Searches.{MayBeAt}
use Rattle.oai_paged.specs.declared.changes.Changed.{Changed}
use Rattle.oai_places.proofs.ResultLemmas.{on_ok_from}
use Rattle.oai_paged.proofs.DirectoryChanges.{one_put, stands_read}
use Rattle.oai_places.proofs.DirectoryLemmas.{may_stand_with, no_place}
use Rattle.oai_paged.proofs.directories.DirectoryLeaves.put_among.Goals as goal

pub put-requires-clause-one_page : goal.put-requires-clause-one_page
put-requires-clause-one_page g c =
    let at = c.args.at in
    let few = c.requires.place.passes no_place in
    c.in_ok-old.ensures.fits.fits no_place (omega (arith, few, ap (λ (ps : List PlaceState). length (get_or ps at no_place).pages) c.as_slice.ensures.value))

pub change-requires-clause-may_stand : goal.change-requires-clause-may_stand
change-requires-clause-may_stand g c =
    let G = g.P.PagePool in
    let p = c.args.pages.now in
    let item : ItemState = c.args.item.now in
    let before : List PlaceState = c.args.self.now.places.items in
    let old : List ItemState = c.in_ok-old.old in
    let at = c.args.at in
    let within : at < length before = omega (arith, c.requires.place.within, c.args.self.now.places.ok.0) in
    let read : MayBeAt before at old = subst (λ (ps : List PlaceState). MayBeAt ps at old) c.as_slice.ensures.value c.in_ok-old.ensures.fits in
    let stands = stands_read G c.read_place.result before p c.read_place.new.pages c.requires.stands c.read_place.ensures.pages in
    rw c.in_ok-entries.ensures.with (may_stand_with (G.pages c.read_place.new.pages) before item at old stands.directory within c.requires.place.belongs read)

pub returns : goal.returns
returns g c =
    let G = g.P.PagePool in
    let p = c.args.pages.now in
    let item : ItemState = c.args.item.now in
    let before : List PlaceState = c.args.self.now.places.items in
    let old : List ItemState = c.in_ok-old.old in
    let at = c.args.at in
    let within : at < length before = omega (arith, c.requires.place.within, c.args.self.now.places.ok.0) in
    let mid = c.read_place.new.pages in
    let q = c.change.new.pages in
    let after : List PlaceState = c.change.new.self.places.items in
    let entries : List ItemState = c.in_ok-entries.entries in
    record {
      list = on_ok_from (λ (changed : Changed). IsDirectoryChanged G entries at 1 changed.at changed.len changed.gone.items before after mid q)
          (IsTrue (G.honest p) → items_on (G.pages q) after ≡ with_item item (items_on (G.pages p) before)) c.change.result
          (λ changed is honest.
          let held : old ≡ items_at (G.pages p) (get_or c.as_slice.result.now at no_place) = c.in_ok-old.ensures.items honest no_place in
          one_put G c.read_place.result item old entries at changed.at changed.len changed.gone.items before after p mid q c.requires.stands c.read_place.ensures.pages within c.requires.place.belongs is
          c.in_ok-entries.ensures.with (held ∙ ap (λ (ps : List PlaceState). items_at (G.pages p) (get_or ps at no_place)) c.as_slice.ensures.value))
          c.change.ensures.ok;
      staged = search rules;
      err = search rules;
      capacity = search rules;
      pool = search rules;
      groups = search rules;
    }
