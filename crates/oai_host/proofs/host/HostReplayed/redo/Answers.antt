-- What was performed again is what its call leaves.
use Rattle.std.proofs.Common.{FitsSigned, w64}
use Rattle.std.proofs.lemmas.Int.{to_z-of_z}
use Rattle.oai_host.proofs.RedoLemmas.{redo_honest, redo_left}
use Rattle.oai_host.proofs.host.HostReplayed.redo.Goals as goal

pub returns-clause-redone : goal.returns-clause-redone
returns-clause-redone g c =
    let fits : FitsSigned w64 c.args.moment = c.ranges.moment in
    redo_left c.args.moment c.args.performed.now c.redo.result c.args.self.now c.redo.new.self (simp to_z-of_z at c.redo.ensures)

pub returns-clause-honesty : goal.returns-clause-honesty
returns-clause-honesty g c =
    let fits : FitsSigned w64 c.args.moment = c.ranges.moment in
    redo_honest c.args.moment c.args.performed.now c.redo.result c.args.self.now c.redo.new.self (simp to_z-of_z at c.redo.ensures)
