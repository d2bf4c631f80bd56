-- At the place of its mark a list goes on behind the mark's record.
use Rattle.std.proofs.Common.{rules, FitsSigned, IsTrue, w64}
use Rattle.std.proofs.lemmas.Int.{to_z-of_z}
use Rattle.oai_repo.proofs.MarkLemmas.{part_after_mark}
use Rattle.oai_repo.proofs.parts.items_behind.Goals as goal

pub returns-in-Some-clause-items : goal.returns-in-Some-clause-items
returns-in-Some-clause-items g c =
    let fits : FitsSigned w64 c.in-Some.mark.now.stamp = search rules in
    let all = g.V.Versions.lists c.args.store.now in
    part_after_mark c.part_after.result (IsTrue (g.V.Versions.honest c.args.store.now)) all c.args.list.now c.in-Some.mark.now c.args.most c.args.cursor c.in-Some.ensures.0 c.in-Some.ensures.1 c.requires.marked (g.met.V.Versions.rising c.args.store.now)
    (simp to_z-of_z at c.part_after.ensures.part)
