-- The file is synced, so what is read of it is durable.
use Rattle.std.proofs.Common.{◌≡◌, ◌∙◌, ℕ, ◌+◌, List, length, subst, sym, ap, refl, arith}
use Rattle.sqlite_disk.specs.Disk.{Only}
use Rattle.oai_journal.specs.Recoveries.{HasNoFirst, Starts, StartsAs}
use Rattle.oai_journal.proofs.RecoveryLemmas.{damaged_first, has_begun, same_left}
use Rattle.oai_journal.proofs.recovery.Recovery.begin.Goals as goal

pub returns-in_default-clause-damaged : goal.returns-in_default-clause-damaged
returns-in_default-clause-damaged g c at is clean =
    let f = c.in_ok-found.ensures in
    let o = c.in_ok-self.ensures in
    let before = f.clean clean in
    let size : c.in_ok-self.field-0 ≡ length (g.D.Disk.seen c.open_len.new.self.disk) = o.len before ∙ ap length (sym o.seen) in
    let none : HasNoFirst (g.D.Disk.seen c.open_len.new.self.disk) =
    subst (Starts (g.D.Disk.seen c.open_len.new.self.disk) c.read_first.new.frame.items) c.in_default.is (f.found clean o.block size) in
    damaged_first (g.D.Disk.seen c.read_first.new.reader.disk) at is (subst HasNoFirst (sym f.seen) none)

pub returns-clause-begun : goal.returns-clause-begun
returns-clause-begun g c clean =
    let f = c.in_ok-found.ensures in
    let o = c.in_ok-self.ensures in
    let before = f.clean clean in
    let size : c.in_ok-self.field-0 ≡ length (g.D.Disk.seen c.open_len.new.self.disk) = o.len before ∙ ap length (sym o.seen) in
    let there : StartsAs (g.D.Disk.seen c.open_len.new.self.disk) c.read_first.new.frame.items c.in-Some.digest =
    subst (Starts (g.D.Disk.seen c.open_len.new.self.disk) c.read_first.new.frame.items) c.in-Some.is (f.found clean o.block size) in
    let only : Only (g.D.Disk.seen c.read_first.new.reader.disk) (g.D.Disk.may_leave c.read_first.new.reader.disk) =
    same_left g.D.Disk.seen g.D.Disk.may_leave c.open_len.new.self.disk c.read_first.new.reader.disk f.seen f.crash o.durable in
    let at : 1 + c.len.result ≡ 1 + length c.read_first.new.frame.items = omega (arith, c.len.ensures, c.read_first.new.frame.ok.0) in
    has_begun _ _ _ c.in-Some.digest (size ∙ ap length (sym f.seen)) only (f.block clean o.block) refl at refl
    (subst (λ (l : List ℕ). StartsAs l c.read_first.new.frame.items c.in-Some.digest) (sym f.seen) there)
