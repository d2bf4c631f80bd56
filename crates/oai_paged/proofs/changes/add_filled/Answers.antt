use Rattle.std.proofs.Common.{List, [], refl}
use Rattle.oai_item.specs.Item.{ItemState}
use Rattle.oai_places.specs.Pages.{between, overflow_of}
use Rattle.oai_places.proofs.EntryLemmas.{storable-between}
use Rattle.oai_places.proofs.TestedLemmas.{kind_fits}
use Rattle.oai_paged.proofs.changes.add_filled.Goals as goal

pub add-requires : goal.add-requires
add-requires g c =
    let items : List ItemState = between c.args.range.from c.args.range.to c.args.range.entries.now in
    kind_fits items (overflow_of items) c.args.at c.in_ok-page.page.value c.args.kind c.requires.kind refl c.requires.there (c.in_ok-page.ensures.value [])
    (storable-between c.args.range.from c.args.range.to c.args.range.entries.now c.len-all.ensures.storable) c.requires.range.alone
