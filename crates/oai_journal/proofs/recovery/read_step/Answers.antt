-- A closed gate ends the journal, but where what stands behind it goes on.
use Rattle.std.proofs.Common.{◌∙◌, ◌↔◌, ℕ, ◌+◌, List, IsTrue, drop, length, subst, sym, ap}
use Rattle.oai_journal.specs.Changes.{GoesOn}
use Rattle.oai_journal.specs.Recoveries.{IsGateAt, IsReadStep}
use Rattle.oai_journal.proofs.RecoveryLemmas.{closed_step}
use Rattle.oai_journal.proofs.recovery.read_step.Goals as goal

pub returns-then-not-is_open-clause-found : goal.returns-then-not-is_open-clause-found
returns-then-not-is_open-clause-found g c clean block size =
    let file : List ℕ = g.D.Disk.seen c.args.reader.now.disk in
    let gates = c.in_ok-gate.ensures in
    let o = c.in_ok-on.ensures in
    let gate = subst (IsGateAt file c.args.at) c.in-Some.is (gates.found (o.clean clean) block size) in
    let iff = subst (λ (l : List ℕ). IsTrue c.in_ok-on.on ↔ GoesOn c.args.digest (drop (c.args.at + 1) l)) gates.seen (o.found clean (gates.block (o.clean clean) block) (size ∙ ap length (sym gates.seen))) in
    subst (IsReadStep (drop c.args.at file) c.args.digest c.goes_on.new.frame.items) (sym c.closed_step.ensures)
    (closed_step (drop c.args.at file) c.goes_on.new.frame.items c.args.digest c.in-Some.gate (drop (c.args.at + 1) file) c.in_ok-on.on gate
    (sym c.is_open.ensures ∙ c.if-not-is_open.true) iff)
