-- A record is read, and performed.
use Rattle.oai_durable.proofs.RedoneLemmas.{next_redone, tells_nothing, tells_own}
use Rattle.oai_durable.proofs.recovery.redo_next.Goals as goal

pub returns-in-Ok-clause-next : goal.returns-in-Ok-clause-next
returns-in-Ok-clause-next g c = λ more clean begun first entries had.
    let read = c.in-Ok-true.ensures.next clean first entries had.read c.in-Ok-true.field-0-test in (
      read.0,
      next_redone g.H.Replayed.kept g.H.Replayed.is_honest (record { redone = g.H.Replayed.redone; restored = g.H.Replayed.restored }) g.D.Disk.seen g.D.Disk.may_leave begun c.args.handler.now c.redo_last.new.handler
          c.args.recovery.now c.advance.new.self first entries read.0 had read.1 (c.in-Ok.ensures.redone read.0 read.2) c.redo_last.ensures.honesty,
    )

pub returns-in-Ok-false-clause-end : goal.returns-in-Ok-false-clause-end
returns-in-Ok-false-clause-end g c = λ none clean begun first entries had.
    let read = c.in-Ok-false.ensures.end clean first entries had.read c.in-Ok-false.field-0-test in
    (record { read = read.0; so = had.so }, read.1)

pub returns-in-Err-redo_last-clause-damaged : goal.returns-in-Err-redo_last-clause-damaged
returns-in-Err-redo_last-clause-damaged g c = λ clean first entries had. tells_nothing (g.D.Disk.seen c.advance.new.self.reader.disk) c.in-Err-redo_last.fault c.in-Err-redo_last.ensures.own

pub returns-in-Err-clause-damaged : goal.returns-in-Err-clause-damaged
returns-in-Err-clause-damaged g c = λ clean first entries had.
    tells_own (g.D.Disk.seen c.advance.new.self.reader.disk) c.in-Err.fault (λ at is. c.in-Err.ensures.damaged at is clean first entries had)
