use Rattle.std.proofs.Common.{◌≡◌, ◌∙◌, [], ◌∷◌, IsTrue, List, ap, rules, subst, sym}
use Rattle.oai_item.specs.Item.{ItemState}
use Rattle.oai_item.specs.Items.{with_item}
use Rattle.oai_paged.specs.Changes.{IsDirectoryChanged}
use Rattle.oai_places.specs.Directory.{MayStand}
use Rattle.oai_places.specs.Pages.{fit_one}
use Rattle.oai_places.specs.Places.{PlaceState, items_on}
use Rattle.oai_paged.specs.declared.changes.Changed.{Changed}
use Rattle.oai_places.proofs.ResultLemmas.{on_ok_from}
use Rattle.oai_paged.proofs.LoneLemmas.{items_beside, may_stand_put, put_none}
use Rattle.oai_places.proofs.ShortLemmas.{fit-nil}
use Rattle.oai_paged.proofs.directories.DirectoryLeaves.put_alone.Goals as goal

pub put-requires-clause-one_page : goal.put-requires-clause-one_page
put-requires-clause-one_page g c = ap fit_one c.new.ensures ∙ fit-nil

pub change-requires-clause-may_stand : goal.change-requires-clause-may_stand
change-requires-clause-may_stand g c =
    let pages = g.P.PagePool.pages c.args.pages.now in
    let item : ItemState = c.args.item.now in
    let places : List PlaceState = c.args.self.now.places.items in
    let made : c.in_ok-entries.entries ≡ item ∷ [] = c.in_ok-entries.ensures.with ∙ ap (with_item item) c.new.ensures ∙ put_none item in
    subst (λ (es : List ItemState). MayStand pages places c.args.run.at c.args.run.len es) (sym made) (may_stand_put pages places item c.args.run.at c.args.run.len c.requires.stands.directory c.requires.puts)

pub returns : goal.returns
returns g c =
    let G = g.P.PagePool in
    let p = c.args.pages.now in
    let q = c.change.new.pages in
    let item : ItemState = c.args.item.now in
    let at = c.args.run.at in
    let len = c.args.run.len in
    let before : List PlaceState = c.args.self.now.places.items in
    let after : List PlaceState = c.change.new.self.places.items in
    let entries : List ItemState = c.in_ok-entries.entries in
    let made : entries ≡ item ∷ [] = c.in_ok-entries.ensures.with ∙ ap (with_item item) c.new.ensures ∙ put_none item in
    record {
      list = on_ok_from (λ (changed : Changed). IsDirectoryChanged G entries at len changed.at changed.len changed.gone.items before after p q)
          (IsTrue (G.honest p) → items_on (G.pages q) after ≡ with_item item (items_on (G.pages p) before)) c.change.result
          (λ changed is honest. items_beside G item at len changed.at changed.len changed.gone.items before after p q c.requires.stands
          (subst (λ (es : List ItemState). IsDirectoryChanged G es at len changed.at changed.len changed.gone.items before after p q) made is) c.requires.puts)
          c.change.ensures.ok;
      staged = search rules;
      err = search rules;
      capacity = search rules;
      pool = search rules;
      groups = search rules;
    }
