use Rattle.std.proofs.Common.{[], subst, sym}
use Rattle.oai_paged.specs.Shelves.{AreShelved}
use Rattle.oai_paged.specs.Versions.{AreShared, DirectoryNumbers, Shelves, places_of}
use Rattle.oai_paged.proofs.HeldLemmas.{all_left, shelved_none}
use Rattle.oai_paged.proofs.StoreLemmas.{shared_empty}
use Rattle.oai_paged.proofs.store.VersionsOver.new.Goals as goal

pub invariant_of-result : goal.invariant_of-result
invariant_of-result g c =
    let G = g.P.PagePool in
    let pool = c.args.pool in
    record {
      shelved = subst (λ (shelves : Shelves). AreShelved (G.counts pool) (G.pages pool) (places_of shelves)) (sym c.new-2.ensures.empty)
          (shelved_none (G.counts pool) (G.pages pool) c.requires);
      shared = subst (λ (versions : DirectoryNumbers). AreShared versions c.new-2.result.slots) (sym c.new-3.ensures.empty)
          (subst (λ (shelves : Shelves). AreShared [] shelves) (sym c.new-2.ensures.empty) shared_empty);
    }

pub returns-clause-room : goal.returns-clause-room
returns-clause-room g c =
    let G = g.P.PagePool in
    λ most. all_left (G.room c.args.pool) (G.counts c.args.pool) c.requires most
