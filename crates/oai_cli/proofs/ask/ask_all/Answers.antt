-- One line more is read and performed, or the program stops at it.
use Rattle.std.proofs.Common.{◌≡◌, ◌∙◌, true, inl, Ok, refl, rules}
use Rattle.std.proofs.lemmas.Result.{err_from_is_err_and}
use Rattle.std.specs.Io.KnownBytes.{Appends}
use Rattle.oai_cli.specs.Inputs.{IsNextLine, left, numbered}
use Rattle.oai_cli.specs.Asked.{AreDoneAndCounted}
use Rattle.oai_cli.proofs.AskedLemmas.{asked_none, asked_stopped, asked_unread, ended_none}
use Rattle.oai_cli.proofs.ReadLemmas.{read_more, read_none}
use Rattle.oai_startup.specs.declared.stop.Stop.TheVariants.{InputFault}
use Rattle.oai_cli.proofs.ask.ask_all.Goals as goal

pub loop-init : goal.loop-init
loop-init g c =
    let written = g.W.Write.contents c.args.writer.now in
    rw c.in_ok-lines.ensures.begun
    (read_none (g.R.Read.remaining c.args.reader.now) (AreDoneAndCounted c.args.host.now c.args.host.now 0 (Appends written written)) (ended_none c.args.host.now written))

pub returns-in_err-ask_line-clause-asked : goal.returns-in_err-ask_line-clause-asked
returns-in_err-ask_line-clause-asked g c =
    let from = g.W.Write.contents c.args.writer.now in
    let some : c.in_ok-next.field-0 ≡ true = search rules in
    let next : IsNextLine (left c.loop.lines (g.R.Read.remaining c.loop.reader)) (Ok true) c.line.result.now (left c.next.new.self (g.R.Read.remaining c.next.new.reader)) =
    rw (c.line.ensures) (rw some at c.in_ok-next.ensures.next) in
    let counted : c.number.result ≡ numbered true c.loop.lines.number = c.number.ensures ∙ rw some at c.in_ok-next.ensures.number in
    let p = err_from_is_err_and c.from_residual-in_err-ask_line.result c.from_residual-in_err-ask_line.ensures.1 in
    rw (p.1, p.2)
    (asked_stopped (g.R.Read.remaining c.args.reader.now) _ _ c.line.result.now c.args.host.now c.loop.host c.ask_line.new.host c.loop.lines.number c.number.result _ _
    c.in_err-ask_line.field-0.0 next (λ front ended. c.in_err-ask_line.ensures.done c.args.host.now from front c.loop.lines.number counted ended) c.loop.invariant)

pub loop-preserved : goal.loop-preserved
loop-preserved g c =
    let from = g.W.Write.contents c.args.writer.now in
    let some : c.in_ok-next.field-0 ≡ true = search rules in
    let next : IsNextLine (left c.loop.lines (g.R.Read.remaining c.loop.reader)) (Ok true) c.line.result.now (left c.next.new.self (g.R.Read.remaining c.next.new.reader)) =
    rw (c.line.ensures) (rw some at c.in_ok-next.ensures.next) in
    let counted : c.number.result ≡ numbered true c.loop.lines.number = c.number.ensures ∙ rw some at c.in_ok-next.ensures.number in
    rw (c.number.ensures) at
    (read_more (g.R.Read.remaining c.args.reader.now) _ _ c.line.result.now
    (AreDoneAndCounted c.args.host.now c.loop.host c.loop.lines.number (Appends from (g.W.Write.contents c.loop.writer)))
    (AreDoneAndCounted c.args.host.now c.ask_line.new.host c.number.result (Appends from (g.W.Write.contents c.ask_line.new.writer)))
    next (λ front ended. c.in_ok-ask_line.ensures.done c.args.host.now from front c.loop.lines.number counted ended) c.loop.invariant)

pub returns-in_err-lines-clause-asked : goal.returns-in_err-lines-clause-asked
returns-in_err-lines-clause-asked g c =
    let p = err_from_is_err_and c.from_residual.result c.from_residual.ensures.1 in
    rw (p.1, p.2)
    (asked_none (g.R.Read.remaining c.args.reader.now) c.args.host.now (g.W.Write.contents c.args.writer.now) c.in_err-lines.field-0.0 c.in_err-lines.ensures.err)

pub returns-in_err-next-clause-asked : goal.returns-in_err-next-clause-asked
returns-in_err-next-clause-asked g c =
    let from = g.W.Write.contents c.args.writer.now in
    let p = err_from_is_err_and c.from_residual-in_err-next.result c.from_residual-in_err-next.ensures.1 in
    rw (p.1, p.2)
    (asked_unread (g.R.Read.remaining c.args.reader.now) (left c.loop.lines (g.R.Read.remaining c.loop.reader)) c.args.host.now c.loop.host c.loop.lines.number
    (Appends from (g.W.Write.contents c.loop.writer)) c.in_err-next.field-0.0 c.in_err-next.ensures.err c.loop.invariant)

pub returns-clause-asked : goal.returns-clause-asked
returns-clause-asked g c =
    asked_unread (g.R.Read.remaining c.args.reader.now) (left c.loop.lines (g.R.Read.remaining c.loop.reader)) c.args.host.now c.loop.host c.loop.lines.number
    (Appends (g.W.Write.contents c.args.writer.now) (g.W.Write.contents c.loop.writer)) InputFault (inl refl) c.loop.invariant
