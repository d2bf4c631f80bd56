use Rattle.std.proofs.Common.{◌∙◌, ℕ, List, ◌∷◌, drop, length, true, subst, sym, ap}
use Rattle.oai_journal.specs.Recoveries.{FindsFrame, IsGateAt}
use Rattle.oai_journal.proofs.RecoveryLemmas.{if_ok, starts}
use Rattle.oai_journal.proofs.recovery.read_first.Goals as goal

pub returns-in_ok-out-in-Some-clause-found : goal.returns-in_ok-out-in-Some-clause-found
returns-in_ok-out-in-Some-clause-found g c =
    let file : List ℕ = g.D.Disk.seen c.args.reader.now.disk in
    if_ok c.read_frame.result c.read_frame.ensures.found (λ found reads clean block size.
    let seen = c.in_ok-gate.ensures.seen in
    let gate = subst (IsGateAt file 0) c.in-Some.is (c.in_ok-gate.ensures.found (c.read_frame.ensures.clean clean) block size) in
    let there = subst (λ (l : List ℕ). FindsFrame true 0 (drop 1 l) c.read_frame.new.frame.items found) seen (reads clean (c.in_ok-gate.ensures.block (c.read_frame.ensures.clean clean) block) (size ∙ ap length (sym seen))) in
    starts file c.read_frame.new.frame.items found (gate ∙ ap (λ n. n ∷ drop 1 file) c.if-gate-eq-OPEN_GATE.true) there)
