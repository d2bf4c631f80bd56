-- The items of one version that the other lacks go, and then come those that the one lacks.
use Rattle.std.proofs.Common.{List, subst, sym}
use Rattle.oai_item.specs.Item.{ItemState}
use Rattle.oai_catalogue.specs.Store.{list_at}
use Rattle.oai_snapshots.specs.Reading.{AreNextDifferences, place_in_differences}
use Rattle.oai_snapshots.specs.declared.places.Differences.{Differences}
use Rattle.oai_snapshots.proofs.ReadingLemmas.{between_comes, between_goes}
use Rattle.oai_snapshots.proofs.reading.read_between.Goals as goal

pub returns-in_ok-batch-in-Going-clause-read : goal.returns-in_ok-batch-in-Going-clause-read
returns-in_ok-batch-in-Going-clause-read g c honest =
    let lists = g.V.Versions.lists c.args.store.now in
    let items : List ItemState = list_at lists c.args.before in
    let others : List ItemState = list_at lists c.args.version in
    let batched = rw c.as_ref.ensures.value at (c.in_ok-batch-in-Going.ensures.batch honest) in
    let further = rw c.as_ref.ensures.value at c.in_ok-batch-in-Going.ensures.further in
    subst (λ (d : Differences). AreNextDifferences (place_in_differences c.args.place.now) items others d) (sym c.go.ensures)
    (between_goes items others c.args.place.now _ c.in_ok-batch-in-Going.batch c.in-Going.is (g.met.V.Versions.rising c.args.store.now c.args.before) batched further)

pub returns-in_ok-batch-in-Arriving-clause-read : goal.returns-in_ok-batch-in-Arriving-clause-read
returns-in_ok-batch-in-Arriving-clause-read g c honest =
    let lists = g.V.Versions.lists c.args.store.now in
    let items : List ItemState = list_at lists c.args.before in
    let others : List ItemState = list_at lists c.args.version in
    let batched = rw c.as_ref-in-Arriving.ensures.value at (c.in_ok-batch-in-Arriving.ensures.batch honest) in
    let further = rw c.as_ref-in-Arriving.ensures.value at c.in_ok-batch-in-Arriving.ensures.further in
    subst (λ (d : Differences). AreNextDifferences (place_in_differences c.args.place.now) items others d) (sym c.come.ensures)
    (between_comes items others c.args.place.now _ c.in_ok-batch-in-Arriving.batch c.in-Arriving.is (g.met.V.Versions.rising c.args.store.now c.args.version) batched further)
