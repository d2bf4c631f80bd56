-- From nothing all items come.
use Rattle.std.proofs.Common.{ℕ, List, [], Option, subst, sym}
use Rattle.oai_item.specs.Item.{ItemState}
use Rattle.oai_catalogue.specs.Store.{list_at}
use Rattle.oai_snapshots.specs.Reading.{AreNextDifferences, place_in_differences}
use Rattle.oai_snapshots.specs.Snapshots.{items_before}
use Rattle.oai_snapshots.specs.declared.places.Differences.{Differences}
use Rattle.oai_snapshots.proofs.ReadingLemmas.{nothing_comes}
use Rattle.oai_snapshots.proofs.reading.read_differences.Goals as goal

pub returns-in_ok-batch-in-None-clause-read : goal.returns-in_ok-batch-in-None-clause-read
returns-in_ok-batch-in-None-clause-read g c honest =
    let lists = g.V.Versions.lists c.args.store.now in
    let others : List ItemState = list_at lists c.args.version in
    let place = place_in_differences c.args.place.now in
    let read = rw c.key_of_place.ensures at (c.in_ok-batch-in-None.ensures.read honest) in
    let further = rw c.key_of_place.ensures at (c.in_ok-batch-in-None.ensures.further honest) in
    subst (λ (o : Option ℕ). AreNextDifferences place (items_before lists o) others c.come.result) (sym c.in-None.is)
    (subst (λ (d : Differences). AreNextDifferences place [] others d) (sym c.come.ensures) (nothing_comes others place c.in_ok-batch-in-None.batch read further))
