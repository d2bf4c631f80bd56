-- Each item that the repository keeps has a record in oai_dc.
use Rattle.oai_holdings.specs.Index.{stored_items}
use Rattle.oai_holdings.proofs.RestoreLemmas.{all_in_core}
use Rattle.oai_repo.proofs.repo.Repo.items_behind.Goals as goal

pub read_behind-requires-clause-core : goal.read_behind-requires-clause-core
read_behind-requires-clause-core g c = λ honest.
    let all = g.V.Versions.lists c.args.store.now in
    let owns = rw (← c.self.view_is) at c.requires in
    let inside = c.self.inside in
    rw c.version.ensures (all_in_core inside.config inside.sets (stored_items inside.index all) (owns.held honest).indexed.kept.well)
