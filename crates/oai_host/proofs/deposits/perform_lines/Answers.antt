-- Each line that was performed is one more of those that were, and a fault ends them.
use Rattle.std.proofs.Common.{◌≡◌, ◌∷◌, [], FitsSigned, w64, arith, refl}
use Rattle.std.proofs.lemmas.Int.{to_z-of_z}
use Rattle.oai_host.specs.Bodies.{lines_in}
use Rattle.oai_host.proofs.DepositLemmas.{many_done, many_in_all}
use Rattle.oai_host.proofs.LineLemmas.{behind_on, behind_taken}
use Rattle.oai_host.proofs.ProgressLemmas.{all_done_in, ended_by, one_on}
use Rattle.oai_host.proofs.RedoLemmas.{failed_lines}
use Rattle.oai_host.proofs.deposits.perform_lines.Goals as goal

pub loop-text-preserved : goal.loop-text-preserved
loop-text-preserved g c =
    let V = g.V.Versions in
    let fits : FitsSigned w64 c.args.moment = c.ranges.moment in
    let next : lines_in c.loop-text.rest.now ≡ c.in-Some.text.now ∷ lines_in c.in-Some.behind.now = rw c.in-Some.is at c.next_line.ensures.line in
    let so_far = rw next at (simp to_z-of_z at c.loop-text.invariant.lines) in
    let answered = rw c.in-Ok.is at (simp to_z-of_z at c.answer_line.ensures) in
    let less = rw c.in-Some.is at c.next_line.ensures.less in
    let few = c.loop-text.invariant.few in
    record {
      lines = simp to_z-of_z (one_on V c.args.moment c.args.repo.now c.loop-text.repo c.args.store.now c.loop-text.store (lines_in c.args.body.now) (lines_in c.in-Some.behind.now) c.in-Some.text.now c.loop-text.told.items c.loop-text.done so_far
          c.answer_line.new.repo c.answer_line.new.store c.answer_line.new.told.items answered);
      behind = behind_on c.args.body.now c.loop-text.rest.now c.in-Some.behind.now c.loop-text.done 1 (omega (arith, few)) (omega (arith, less)) c.loop-text.invariant.behind (rw c.in-Some.is at c.next_line.ensures.behind);
      few = omega (arith, few, less);
    }

pub returns-in-Err-clause-performed : goal.returns-in-Err-clause-performed
returns-in-Err-clause-performed g c =
    let V = g.V.Versions in
    let fits : FitsSigned w64 c.args.moment = c.ranges.moment in
    let next : lines_in c.loop-text.rest.now ≡ c.in-Some.text.now ∷ lines_in c.in-Some.behind.now = rw c.in-Some.is at c.next_line.ensures.line in
    let so_far = rw next at (simp to_z-of_z at c.loop-text.invariant.lines) in
    rw c.of_fault-answer.ensures (ended_by V c.args.moment c.args.repo.now c.loop-text.repo c.args.store.now c.loop-text.store (lines_in c.args.body.now) (lines_in c.in-Some.behind.now) c.in-Some.text.now c.loop-text.told.items c.loop-text.done so_far
    c.answer_line.new.repo c.answer_line.new.store c.answer_line.new.told.items c.in-Err.fault (rw c.in-Err.is at (simp to_z-of_z at c.answer_line.ensures)))

pub returns-in-Err-clause-lines : goal.returns-in-Err-clause-lines
returns-in-Err-clause-lines g c =
    rw c.of_fault-answer.ensures (failed_lines c.args.body.now _ c.in-Err.fault c.loop-text.done (behind_taken c.args.body.now c.loop-text.rest.now c.loop-text.done c.loop-text.invariant.behind))

pub returns-in-Err-clause-count : goal.returns-in-Err-clause-count
returns-in-Err-clause-count g c =
    let V = g.V.Versions in
    let fits : FitsSigned w64 c.args.moment = c.ranges.moment in
    let so_far = simp to_z-of_z at c.loop-text.invariant.lines in
    many_done (V.honest c.args.store.now) c.args.repo.now c.loop-text.repo (V.lists c.args.store.now) (V.lists c.loop-text.store) c.args.moment (lines_in c.args.body.now) (lines_in c.loop-text.rest.now) _ c.loop-text.told.items c.loop-text.done
    so_far.lines (behind_taken c.args.body.now c.loop-text.rest.now c.loop-text.done c.loop-text.invariant.behind)

pub returns-clause-count : goal.returns-clause-count
returns-clause-count g c =
    let V = g.V.Versions in
    let fits : FitsSigned w64 c.args.moment = c.ranges.moment in
    let none : lines_in c.loop-text.rest.now ≡ [] = rw c.in_default.is at c.next_line.ensures.line in
    let so_far = simp to_z-of_z at c.loop-text.invariant.lines in
    many_in_all (V.honest c.args.store.now) c.args.repo.now c.loop-text.repo (V.lists c.args.store.now) (V.lists c.loop-text.store) c.args.moment (lines_in c.args.body.now) (lines_in c.loop-text.rest.now) c.loop-text.told.items c.loop-text.done
    so_far.lines none

pub returns-clause-lines : goal.returns-clause-lines
returns-clause-lines g c = rw c.with_body.ensures refl

pub returns-clause-performed : goal.returns-clause-performed
returns-clause-performed g c =
    let V = g.V.Versions in
    let fits : FitsSigned w64 c.args.moment = c.ranges.moment in
    let none : lines_in c.loop-text.rest.now ≡ [] = rw c.in_default.is at c.next_line.ensures.line in
    let so_far = simp to_z-of_z at c.loop-text.invariant.lines in
    rw (c.with_body.ensures, c.new.ensures) (all_done_in V c.args.moment c.args.repo.now c.loop-text.repo c.args.store.now c.loop-text.store (lines_in c.args.body.now) (lines_in c.loop-text.rest.now) c.loop-text.told.items c.loop-text.done so_far none)
