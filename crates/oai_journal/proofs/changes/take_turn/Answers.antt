-- What stands behind the gate goes on by the frame that was read, and by the gate behind it.
use Rattle.std.proofs.Common.{◌≡◌, ◌∙◌, ℕ, ◌+◌, List, Some, None, false, drop, length, subst, sym, ap, arith}
use Rattle.oai_journal.specs.Recoveries.{FindsFrame, HasFrame, IsGateAt}
use Rattle.oai_journal.proofs.ChangeLemmas.{Begins, turn_at_further, turn_at_none, turn_at_open, turn_at_other}
use Rattle.oai_journal.proofs.changes.take_turn.Goals as goal

pub returns-in_default-2-clause-found : goal.returns-in_default-2-clause-found
returns-in_default-2-clause-found g c clean block size =
    let file : List ℕ = g.D.Disk.seen c.args.reader.now.disk in
    let r = c.in_ok-last.ensures in
    let f : HasFrame false c.args.digest (drop c.args.at file) c.read_frame.new.frame.items c.in-Some.last =
    subst (FindsFrame false c.args.digest (drop c.args.at file) c.read_frame.new.frame.items) c.in-Some.is (r.found (c.in_ok-byte.ensures.clean clean) block size) in
    let len : c.len.result ≡ length c.read_frame.new.frame.items = omega (arith, c.len.ensures, c.read_frame.new.frame.ok.0) in
    let gate : IsGateAt (g.D.Disk.seen c.read_frame.new.reader.disk) (c.args.at + c.len.result) None =
    subst (IsGateAt (g.D.Disk.seen c.read_frame.new.reader.disk) (c.args.at + c.len.result)) c.in_default-2.is (c.in_ok-byte.ensures.found clean (r.block (c.in_ok-byte.ensures.clean clean) block) (size ∙ ap length (sym r.seen))) in
    turn_at_none file (g.D.Disk.seen c.read_frame.new.reader.disk) c.args.at c.args.digest c.in-Some.last c.len.result c.read_frame.new.frame.items f len r.seen gate

pub returns-then-byte-eq-FURTHER_GATE-clause-found : goal.returns-then-byte-eq-FURTHER_GATE-clause-found
returns-then-byte-eq-FURTHER_GATE-clause-found g c clean block size =
    let file : List ℕ = g.D.Disk.seen c.args.reader.now.disk in
    let r = c.in_ok-last.ensures in
    let f : HasFrame false c.args.digest (drop c.args.at file) c.read_frame.new.frame.items c.in-Some.last =
    subst (FindsFrame false c.args.digest (drop c.args.at file) c.read_frame.new.frame.items) c.in-Some.is (r.found (c.in_ok-byte.ensures.clean clean) block size) in
    let len : c.len.result ≡ length c.read_frame.new.frame.items = omega (arith, c.len.ensures, c.read_frame.new.frame.ok.0) in
    let gate : IsGateAt (g.D.Disk.seen c.read_frame.new.reader.disk) (c.args.at + c.len.result) (Some c.in-Some-2.byte) =
    subst (IsGateAt (g.D.Disk.seen c.read_frame.new.reader.disk) (c.args.at + c.len.result)) c.in-Some-2.is (c.in_ok-byte.ensures.found clean (r.block (c.in_ok-byte.ensures.clean clean) block) (size ∙ ap length (sym r.seen))) in
    turn_at_further file (g.D.Disk.seen c.read_frame.new.reader.disk) c.args.at c.args.digest c.in-Some.last c.len.result c.read_frame.new.frame.items f len r.seen c.in-Some-2.byte gate
    c.if-byte-eq-FURTHER_GATE.true

pub returns-then-byte-ne-OPEN_GATE-clause-found : goal.returns-then-byte-ne-OPEN_GATE-clause-found
returns-then-byte-ne-OPEN_GATE-clause-found g c clean block size =
    let file : List ℕ = g.D.Disk.seen c.args.reader.now.disk in
    let r = c.in_ok-last.ensures in
    let f : HasFrame false c.args.digest (drop c.args.at file) c.read_frame.new.frame.items c.in-Some.last =
    subst (FindsFrame false c.args.digest (drop c.args.at file) c.read_frame.new.frame.items) c.in-Some.is (r.found (c.in_ok-byte.ensures.clean clean) block size) in
    let len : c.len.result ≡ length c.read_frame.new.frame.items = omega (arith, c.len.ensures, c.read_frame.new.frame.ok.0) in
    let gate : IsGateAt (g.D.Disk.seen c.read_frame.new.reader.disk) (c.args.at + c.len.result) (Some c.in-Some-2.byte) =
    subst (IsGateAt (g.D.Disk.seen c.read_frame.new.reader.disk) (c.args.at + c.len.result)) c.in-Some-2.is (c.in_ok-byte.ensures.found clean (r.block (c.in_ok-byte.ensures.clean clean) block) (size ∙ ap length (sym r.seen))) in
    turn_at_other file (g.D.Disk.seen c.read_frame.new.reader.disk) c.args.at c.args.digest c.in-Some.last c.len.result c.read_frame.new.frame.items f len r.seen c.in-Some-2.byte gate
    c.if-byte-eq-FURTHER_GATE.false c.if-byte-ne-OPEN_GATE.true

pub returns-clause-found : goal.returns-clause-found
returns-clause-found g c clean block size =
    let file : List ℕ = g.D.Disk.seen c.args.reader.now.disk in
    let r = c.in_ok-last.ensures in
    let b = c.in_ok-on.ensures in
    let before = b.clean clean in
    let f : HasFrame false c.args.digest (drop c.args.at file) c.read_frame.new.frame.items c.in-Some.last =
    subst (FindsFrame false c.args.digest (drop c.args.at file) c.read_frame.new.frame.items) c.in-Some.is (r.found (c.in_ok-byte.ensures.clean before) block size) in
    let len : c.len.result ≡ length c.read_frame.new.frame.items = omega (arith, c.len.ensures, c.read_frame.new.frame.ok.0) in
    let gate : IsGateAt (g.D.Disk.seen c.read_frame.new.reader.disk) (c.args.at + c.len.result) (Some c.in-Some-2.byte) =
    subst (IsGateAt (g.D.Disk.seen c.read_frame.new.reader.disk) (c.args.at + c.len.result)) c.in-Some-2.is (c.in_ok-byte.ensures.found before (r.block (c.in_ok-byte.ensures.clean before) block) (size ∙ ap length (sym r.seen))) in
    let seen : g.D.Disk.seen c.read_gate.new.reader.disk ≡ file = c.in_ok-byte.ensures.seen ∙ r.seen in
    let begins = b.found clean (c.in_ok-byte.ensures.block before (r.block (c.in_ok-byte.ensures.clean before) block)) (size ∙ ap length (sym seen)) in
    turn_at_open file (g.D.Disk.seen c.read_frame.new.reader.disk) c.args.at c.args.digest c.in-Some.last c.len.result c.read_frame.new.frame.items f len r.seen c.in-Some-2.byte c.in_ok-on.on gate
    c.if-byte-ne-OPEN_GATE.false (subst (λ (l : List ℕ). Begins c.in_ok-on.on c.in-Some.last (drop (c.args.at + c.len.result + 1) l)) c.in_ok-byte.ensures.seen begins)
