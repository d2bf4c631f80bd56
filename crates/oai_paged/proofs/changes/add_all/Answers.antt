use Rattle.oai_paged.proofs.RenamedLemmas.{added_named}
use Rattle.oai_paged.proofs.changes.add_all.Goals as goal

pub drop_all-requires : goal.drop_all-requires
drop_all-requires g c =
    let some = c.in-Err.ensures.some in
    added_named g.P.PagePool some.0 c.add_parts.new.added.items c.args.pages.now c.add_parts.new.pages some.1
