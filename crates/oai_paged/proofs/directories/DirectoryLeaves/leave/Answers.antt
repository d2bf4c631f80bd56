use Rattle.std.proofs.Common.{◌≡◌, ◌∙◌, ◌≤◌, IsTrue, List, ap, arith, sym}
use Rattle.oai_item.specs.Item.{ItemState}
use Rattle.oai_paged.specs.Changes.{IsDirectoryChanged}
use Rattle.oai_places.specs.Directory.{items_with_run}
use Rattle.oai_places.specs.Places.{PlaceState, items_on}
use Rattle.oai_paged.specs.declared.changes.Changed.{Changed}
use Rattle.oai_paged.proofs.ChangedLemmas.{changed_items}
use Rattle.oai_places.proofs.ResultLemmas.{on_ok_from}
use Rattle.oai_paged.proofs.DirectoryChanges.{stands_read}
use Rattle.oai_places.proofs.ShortLemmas.{fit_parts}
use Rattle.oai_places.proofs.SpendingLemmas.{ok_of}
use Rattle.oai_paged.proofs.directories.DirectoryLeaves.leave.Goals as goal

pub cuts-cuts-requires-clause-size : goal.cuts-cuts-requires-clause-size
cuts-cuts-requires-clause-size g c = omega (arith, (fit_parts c.merge-merged.result.entries c.merge-merged.ensures.may.fits).0)

pub cuts-cuts-requires-clause-short : goal.cuts-cuts-requires-clause-short
cuts-cuts-requires-clause-short g c = (fit_parts c.merge-merged.result.entries c.merge-merged.ensures.may.fits).1

pub returns-clause-list : goal.returns-clause-list
returns-clause-list g c =
    let G = g.P.PagePool in
    let p = c.args.pages.now in
    let mid = c.merge-merged.new.pages in
    let q = c.change.new.pages in
    let before : List PlaceState = c.args.self.now.places.items in
    let after : List PlaceState = c.change.new.self.places.items in
    let merged = c.merge-merged.result in
    let stands = stands_read G (ok_of merged) before p mid c.requires.stands c.merge-merged.ensures.pages in
    on_ok_from (λ (changed : Changed). IsDirectoryChanged G merged.entries merged.at merged.len changed.at changed.len changed.gone.items before after mid q)
    (IsTrue (G.honest p) → items_on (G.pages q) after ≡ items_with_run (G.pages p) before c.args.at 1 c.args.entries) c.change.result
    (λ changed is honest.
    changed_items G merged.entries merged.at merged.len changed.at changed.len changed.gone.items before after mid q stands is
    ∙ ap (λ (ps : List PlaceState). items_with_run (G.pages mid) ps merged.at merged.len merged.entries) (sym c.as_slice.ensures.value)
    ∙ c.merge-merged.ensures.items honest
    ∙ ap (λ (ps : List PlaceState). items_with_run (G.pages p) ps c.args.at 1 c.args.entries) c.as_slice.ensures.value)
    c.change.ensures.ok
