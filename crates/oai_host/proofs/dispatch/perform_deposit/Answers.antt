-- The lines that were performed are those that are to be replayed.
use Rattle.std.proofs.Common.{FitsSigned, w64}
use Rattle.std.proofs.lemmas.Int.{to_z-of_z}
use Rattle.oai_repo.specs.Fields.{state_of}
use Rattle.oai_host.specs.Exchanged.{store_state}
use Rattle.oai_host.proofs.RedoLemmas.{lines_left, lines_within}
use Rattle.oai_host.proofs.dispatch.perform_deposit.Goals as goal

pub returns-clause-left : goal.returns-clause-left
returns-clause-left g c = λ honest.
    let V = g.V.Versions in
    let fits : FitsSigned w64 c.args.moment = c.ranges.moment in
    let before = c.args.store.now in
    let after = c.perform_lines-answer.new.store in
    let performed = simp to_z-of_z at c.perform_lines-answer.ensures.performed.performed in
    rw c.lines_to_replay.ensures (lines_left c.args.repo.now.config c.args.moment c.args.body.now c.perform_lines-answer.result.0 (state_of c.args.repo.now (V.lists before)) (store_state V before)
    (state_of c.perform_lines-answer.new.repo (V.lists after)) (store_state V after) honest performed c.perform_lines-answer.result.1.now c.perform_lines-answer.ensures.lines)

pub returns-clause-size : goal.returns-clause-size
returns-clause-size g c = rw c.lines_to_replay.ensures (lines_within c.args.body.now c.perform_lines-answer.result.1.now c.perform_lines-answer.ensures.size)
