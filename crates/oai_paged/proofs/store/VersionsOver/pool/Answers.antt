use Rattle.oai_paged.proofs.HeldLemmas.{held, used_below}
use Rattle.oai_paged.proofs.store.VersionsOver.pool.Goals as goal

pub returns-clause-used : goal.returns-clause-used
returns-clause-used g c =
    let self = c.args.self.now in
    λ limit empty. used_below (g.P.PagePool.counts self.pool) (g.P.PagePool.pages self.pool) self.versions.slots self.directories.slots limit
    self.shelved self.shared empty

pub returns-clause-stands : goal.returns-clause-stands
returns-clause-stands g c =
    let self = c.args.self.now in
    λ v item among. held (g.P.PagePool.counts self.pool) (g.P.PagePool.pages self.pool) self.versions.slots self.directories.slots v item
    self.shelved among
