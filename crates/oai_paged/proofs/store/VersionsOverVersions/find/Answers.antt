use Rattle.std.proofs.Common.{◌≡◌, Some, sym}
use Rattle.oai_paged.specs.Versions.{shelf_at}
use Rattle.oai_paged.proofs.StoreLemmas.{store_stands}
use Rattle.oai_paged.proofs.store.VersionsOverVersions.find.Goals as goal

pub find-requires : goal.find-requires
find-requires g c =
    let G = g.P.PagePool in
    let self = c.args.self.now in
    let found : Some c.in-Some.directory.now ≡ shelf_at self.directories.slots c.number_of-number.result = c.in-Some.ensures in
    rw c.as_list.ensures.places (store_stands G self.directories.slots c.number_of-number.result c.in-Some.directory.now self.pool self.shelved (sym found))
