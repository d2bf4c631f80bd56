-- One frame more, or the end.
use Rattle.std.proofs.Common.{◌≡◌, inl, inr, ℕ, ◌+◌, List, length, drop, subst, sym, refl, arith}
use Rattle.oai_journal.specs.Changes.{IsChangedAt}
use Rattle.oai_journal.specs.Recoveries.{Continues, EndsHere, IsDamagedAt, IsReadStep, WasOpen}
use Rattle.oai_journal.proofs.RecoveryLemmas.{changed_here, damaged_here, whole_read, has_continued, has_ended, same_byte}
use Rattle.oai_journal.proofs.recovery.Recovery.advance.Goals as goal

pub returns-in-End-clause-end : goal.returns-in-End-clause-end
returns-in-End-clause-end g c clean first entries h same =
    let s = c.in_ok-read_step.ensures in
    let rest : List ℕ = drop c.args.self.now.at (g.D.Disk.seen c.args.self.now.reader.disk) in
    let here : EndsHere c.args.self.now.digest rest = subst (IsReadStep rest c.args.self.now.digest c.read_step.new.frame.items) c.in-End.is (s.found clean h.block h.size) in
    let moved = has_ended _ _ c.args.self.now _ first entries (record { same = s.seen; crash = s.crash; size = refl; block = s.block clean h.block }) h here refl refl in
    (moved, whole_read _ _ _ first entries refl moved)

pub returns-in-Frame-clause-next : goal.returns-in-Frame-clause-next
returns-in-Frame-clause-next g c clean first entries h more =
    let s = c.in_ok-read_step.ensures in
    let rest : List ℕ = drop c.args.self.now.at (g.D.Disk.seen c.args.self.now.reader.disk) in
    let here : Continues rest c.args.self.now.digest c.read_step.new.frame.items c.in-Frame.digest =
    subst (IsReadStep rest c.args.self.now.digest c.read_step.new.frame.items) c.in-Frame.is (s.found clean h.block h.size) in
    let at : c.args.self.now.at + (1 + c.len.result) ≡ c.args.self.now.at + (1 + length c.read_step.new.frame.items) =
    omega (arith, c.len.ensures, c.read_step.new.frame.ok.0) in
    has_continued _ _ c.args.self.now _ first entries c.in-Frame.digest (record { same = s.seen; crash = s.crash; size = refl; block = s.block clean h.block }) h here refl at c.if-self.false

pub returns-then-self-clause-end : goal.returns-then-self-clause-end
returns-then-self-clause-end g c clean first entries h same = (h, whole_read _ _ _ first entries c.if-self.true h)

pub returns-in-Changed-clause-damaged : goal.returns-in-Changed-clause-damaged
returns-in-Changed-clause-damaged g c at is clean first entries h =
    let s = c.in_ok-read_step.ensures in
    let file : List ℕ = g.D.Disk.seen c.args.self.now.reader.disk in
    let rest : List ℕ = drop c.args.self.now.at file in
    let here : WasOpen c.args.self.now.digest rest =
    subst (IsReadStep rest c.args.self.now.digest c.read_step.new.frame.items) c.in-Changed.is (s.found clean h.block h.size) in
    inr (subst (IsChangedAt (g.D.Disk.seen c.read_step.new.reader.disk)) (same_byte is)
    (subst (λ (l : List ℕ). IsChangedAt l c.args.self.now.at) (sym s.seen) (changed_here file c.args.self.now.at c.args.self.now.digest first entries h.reads here)))

pub returns-in-Damage-clause-damaged : goal.returns-in-Damage-clause-damaged
returns-in-Damage-clause-damaged g c at is clean first entries h =
    let s = c.in_ok-read_step.ensures in
    let file : List ℕ = g.D.Disk.seen c.args.self.now.reader.disk in
    let rest : List ℕ = drop c.args.self.now.at file in
    let here = subst (IsReadStep rest c.args.self.now.digest c.read_step.new.frame.items) c.in-Damage.is (s.found clean h.block h.size) in
    inl (subst (IsDamagedAt (g.D.Disk.seen c.read_step.new.reader.disk)) (same_byte is)
    (subst (λ (l : List ℕ). IsDamagedAt l c.args.self.now.at) (sym s.seen) (damaged_here file c.args.self.now.at c.args.self.now.digest first entries h.reads here)))
