-- Each line that was performed is one more of those that were, and a fault ends them.
use Rattle.std.proofs.Common.{◌≡◌, ◌∷◌, ◌+◌, ◌++◌, [], Some, FitsSigned, w64, sym, refl}
use Rattle.std.proofs.lemmas.Int.{to_z-of_z}
use Rattle.oai_deposit.specs.Lines.{line_of}
use Rattle.oai_http.specs.Answers.{answered_with, failed}
use Rattle.oai_host.specs.Bodies.{lines_in}
use Rattle.oai_host.specs.DepositLines.{outcome_line}
use Rattle.oai_host.proofs.ProgressLemmas.{all_done_in, ended_by, line_answered, line_unanswered, none_done_in, one_on}
use Rattle.oai_host.proofs.RoomLemmas.{fault_told}
use Rattle.oai_host.proofs.deposits.redo_lines.Goals as goal

pub loop-text-init : goal.loop-text-init
loop-text-init g c = ([], 0, none_done_in g.V.Versions _ c.args.repo.now c.args.store.now (lines_in c.args.body.now) c.requires.owns)

pub loop-text-preserved : goal.loop-text-preserved
loop-text-preserved g c =
    let V = g.V.Versions in
    let fits : FitsSigned w64 c.args.moment = c.ranges.moment in
    let mid = c.loop-text.repo in
    let text = c.in-Some.text.now in
    let left = lines_in c.in-Some.behind.now in
    let next : lines_in c.loop-text.rest.now ≡ text ∷ left = rw c.in-Some.is at c.next_line.ensures.line in
    let told = c.loop-text.invariant.0 in
    let done = c.loop-text.invariant.1 in
    let so_far = rw next at (simp to_z-of_z at c.loop-text.invariant.2) in
    let performed = rw c.in-Ok.is at (simp to_z-of_z at c.perform_line.ensures) in
    let its = told ++ outcome_line mid.config.granularity c.in-Ok.field-0 in
    let answered = line_answered V c.args.moment (line_of mid.config.forms text) c.in-Ok.field-0 mid c.loop-text.store c.perform_line.new.repo c.perform_line.new.store told performed in (
      its,
      done + 1,
      simp to_z-of_z (one_on V c.args.moment c.args.repo.now mid c.args.store.now c.loop-text.store (lines_in c.args.body.now) left text told done so_far c.perform_line.new.repo c.perform_line.new.store its answered),
    )

pub returns-in-Err : goal.returns-in-Err
returns-in-Err g c =
    let V = g.V.Versions in
    let fits : FitsSigned w64 c.args.moment = c.ranges.moment in
    let mid = c.loop-text.repo in
    let text = c.in-Some.text.now in
    let left = lines_in c.in-Some.behind.now in
    let next : lines_in c.loop-text.rest.now ≡ text ∷ left = rw c.in-Some.is at c.next_line.ensures.line in
    let told = c.loop-text.invariant.0 in
    let done = c.loop-text.invariant.1 in
    let so_far = rw next at (simp to_z-of_z at c.loop-text.invariant.2) in
    let performed = rw c.in-Err.is at (simp to_z-of_z at c.perform_line.ensures) in
    let answered = line_unanswered V c.args.moment (line_of mid.config.forms text) c.in-Err.fault mid c.loop-text.store c.perform_line.new.repo c.perform_line.new.store told told performed in (
      failed c.in-Err.fault (Some done),
      sym (fault_told c.in-Err.fault (Some done)),
      ended_by V c.args.moment c.args.repo.now mid c.args.store.now c.loop-text.store (lines_in c.args.body.now) left text told done so_far c.perform_line.new.repo c.perform_line.new.store told c.in-Err.fault answered,
    )

pub returns : goal.returns
returns g c =
    let V = g.V.Versions in
    let fits : FitsSigned w64 c.args.moment = c.ranges.moment in
    let none : lines_in c.loop-text.rest.now ≡ [] = rw c.in_default.is at c.next_line.ensures.line in
    let told = c.loop-text.invariant.0 in
    let done = c.loop-text.invariant.1 in
    let so_far = simp to_z-of_z at c.loop-text.invariant.2 in (
      answered_with told,
      refl,
      all_done_in V c.args.moment c.args.repo.now c.loop-text.repo c.args.store.now c.loop-text.store (lines_in c.args.body.now) (lines_in c.loop-text.rest.now) told done so_far none,
    )
