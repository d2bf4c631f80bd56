use Rattle.std.proofs.Common.{◌≡◌, ◌∙◌, ◌≤◌, List, Some, length, ap, subst, sym}
use Rattle.std.specs.Prelude.{slice_set}
use Rattle.oai_pool.specs.declared.pools.TheConstants.{MAX_PAGES}
use Rattle.oai_places.specs.Directory.{StandsIn}
use Rattle.oai_places.specs.Places.{PlaceState}
use Rattle.oai_paged.specs.Versions.{DirectoryState, shelf_at}
use Rattle.oai_paged.proofs.FewLemmas.{few_places}
use Rattle.oai_paged.proofs.StoreLemmas.{lists_by, read_names, store_stands, stored_again}
use Rattle.oai_paged.proofs.store.VersionsOverVersions.count.Goals as goal

pub count-requires-clause-stands : goal.count-requires-clause-stands
count-requires-clause-stands g c =
    let G = g.P.PagePool in
    let self = c.args.self.now in
    let number = c.number_of-number.result in
    let was : DirectoryState = c.in-Some.directory.now in
    let stood : shelf_at self.directories.slots number ≡ Some was = sym c.in-Some.ensures.value in
    let places : c.as_list.result.places.now ≡ was.places = c.as_list.ensures.places ∙ ap (λ (directory : DirectoryState). directory.places) c.tend.ensures in
    subst (λ (places : List PlaceState). StandsIn G self.pool places) (sym places)
    (store_stands G self.directories.slots number was self.pool self.shelved stood)

pub count-requires-clause-few : goal.count-requires-clause-few
count-requires-clause-few g c =
    let G = g.P.PagePool in
    let self = c.args.self.now in
    let number = c.number_of-number.result in
    let was : DirectoryState = c.in-Some.directory.now in
    let stood : shelf_at self.directories.slots number ≡ Some was = sym c.in-Some.ensures.value in
    let places : c.as_list.result.places.now ≡ was.places = c.as_list.ensures.places ∙ ap (λ (directory : DirectoryState). directory.places) c.tend.ensures in
    subst (λ (places : List PlaceState). length places ≤ MAX_PAGES) (sym places)
    (few_places G self.pool was.places (g.met.P.PagePool.limited self.pool) (store_stands G self.directories.slots number was self.pool self.shelved stood))

pub returns-clause-same : goal.returns-clause-same
returns-clause-same g c =
    let G = g.P.PagePool in
    let self = c.args.self.now in
    let number = c.number_of-number.result in
    let was : DirectoryState = c.in-Some.directory.now in
    let stood : shelf_at self.directories.slots number ≡ Some was = sym c.in-Some.ensures.value in
    let q = c.count.new.pages in
    subst (λ (directory : DirectoryState). lists_by (G.pages q) self.versions.slots (slice_set self.directories.slots number (Some directory))
    ≡ lists_by (G.pages self.pool) self.versions.slots self.directories.slots) (sym c.tend.ensures)
    (stored_again G self.versions.slots self.directories.slots number was self.pool q self.shelved self.shared stood
    (read_names G c.count.result self.pool q c.count.ensures.pages)).lists
