-- The first list that has ended is one of those that are held.
use Rattle.std.proofs.Common.{FitsSigned, w64}
use Rattle.std.proofs.lemmas.Int.{to_z-of_z}
use Rattle.oai_repo.proofs.EndLemmas.{ended_used}
use Rattle.oai_repo.proofs.lists.drop_first_ended.Goals as goal

pub release-requires : goal.release-requires
release-requires g c =
    let fits : FitsSigned w64 c.args.now = c.ranges.now in
    let first = simp to_z-of_z at (rw c.in-Some.is at c.expire.ensures.version) in
    ended_used c.args.now c.args.lists.now (g.V.Versions.lists c.args.store.now) c.in-Some.version c.requires.stands first
