-- One line more is read and followed, or the program stops at it; each line performs what it completes.
use Rattle.std.proofs.Common.{◌≡◌, ◌∙◌, true, false, Ok, rules, inl, refl}
use Rattle.std.proofs.lemmas.Result.{err_from_is_err_and}
use Rattle.std.specs.Io.KnownBytes.{Appends}
use Rattle.oai_cli.specs.Inputs.{IsNextLine, left, numbered}
use Rattle.oai_cli.specs.Traces.{AreLinesCounted, tracing}
use Rattle.oai_startup.specs.declared.stop.Stop.TheVariants.{InputFault}
use Rattle.oai_cli.proofs.ReadLemmas.{read_more, read_none}
use Rattle.oai_cli.proofs.TraceLemmas.{counted_more, counted_none, line_stops, traced_none, traced_stopped, traced_unread, traced_whole, unread_stops}
use Rattle.oai_cli.proofs.UsedLemmas.{used_none, used_then}
use Rattle.oai_cli.proofs.trace.trace_all.Goals as goal

pub loop-init : goal.loop-init
loop-init g c =
    let written = g.W.Write.contents c.args.writer.now in (
      used_none g.H.Handler.step c.args.front.now c.args.front.now refl,
      rw c.in_ok-lines.ensures.begun
          (read_none (g.R.Read.remaining c.args.reader.now) (AreLinesCounted g.H.Handler.step c.args.front.now (tracing c.args.front.now c.new-labels.result) 0 (Appends written written))
          (counted_none g.H.Handler.step c.args.front.now c.new-labels.result written c.new-labels.ensures.empty)),
    )

pub loop-preserved : goal.loop-preserved
loop-preserved g c =
    let from = g.W.Write.contents c.args.writer.now in
    let some : c.in_ok-next.field-0 ≡ true = search rules in
    let next : IsNextLine (left c.loop.lines (g.R.Read.remaining c.loop.reader)) (Ok true) c.line.result.now (left c.next.new.self (g.R.Read.remaining c.next.new.reader)) =
    rw (c.line.ensures) (rw some at c.in_ok-next.ensures.next) in
    let counted : c.number.result ≡ numbered true c.loop.lines.number = c.number.ensures ∙ rw some at c.in_ok-next.ensures.number in (
      used_then g.H.Handler.step c.args.front.now c.loop.front c.trace_line.new.front c.loop.invariant.0 c.in_ok-trace_line.ensures.used,
      rw (c.number.ensures) at
          (read_more (g.R.Read.remaining c.args.reader.now) _ _ c.line.result.now
          (AreLinesCounted g.H.Handler.step c.args.front.now (tracing c.loop.front c.loop.labels) c.loop.lines.number (Appends from (g.W.Write.contents c.loop.writer)))
          (AreLinesCounted g.H.Handler.step c.args.front.now (tracing c.trace_line.new.front c.trace_line.new.labels) c.number.result (Appends from (g.W.Write.contents c.trace_line.new.writer)))
          next
          (λ front done. counted_more g.H.Handler.step front c.line.result.now c.args.front.now (tracing c.loop.front c.loop.labels)
          (tracing c.trace_line.new.front c.trace_line.new.labels) c.loop.lines.number c.number.result from (g.W.Write.contents c.loop.writer)
          (g.W.Write.contents c.trace_line.new.writer) counted c.in_ok-trace_line.ensures.line done)
          c.loop.invariant.1),
    )

pub returns-in_err-lines-clause-traced : goal.returns-in_err-lines-clause-traced
returns-in_err-lines-clause-traced g c =
    let written = g.W.Write.contents c.args.writer.now in
    let p = err_from_is_err_and c.from_residual.result c.from_residual.ensures.1 in
    rw (p.1, p.2)
    (traced_none g.H.Handler.step (g.R.Read.remaining c.args.reader.now) c.args.front.now (Appends written written) c.in_err-lines.field-0.0 c.in_err-lines.ensures.err)

pub returns-in_err-next-clause-traced : goal.returns-in_err-next-clause-traced
returns-in_err-next-clause-traced g c =
    let from = g.W.Write.contents c.args.writer.now in
    let p = err_from_is_err_and c.from_residual-in_err-next.result c.from_residual-in_err-next.ensures.1 in
    rw (p.1, p.2)
    (traced_unread g.H.Handler.step (g.R.Read.remaining c.args.reader.now) (left c.loop.lines (g.R.Read.remaining c.loop.reader)) c.args.front.now
    (tracing c.loop.front c.loop.labels) c.loop.lines.number (Appends from (g.W.Write.contents c.loop.writer)) c.in_err-next.field-0.0 c.in_err-next.ensures.err c.loop.invariant.1)

pub returns-in_err-next-clause-stops : goal.returns-in_err-next-clause-stops
returns-in_err-next-clause-stops g c =
    let p = err_from_is_err_and c.from_residual-in_err-next.result c.from_residual-in_err-next.ensures.1 in
    rw (p.1, p.2) (unread_stops c.in_err-next.field-0.0 c.in_err-next.ensures.err)

pub returns-in_err-next-clause-used : goal.returns-in_err-next-clause-used
returns-in_err-next-clause-used g c = c.loop.invariant.0

pub returns-then-not-branch-clause-traced : goal.returns-then-not-branch-clause-traced
returns-then-not-branch-clause-traced g c =
    let none : c.in_ok-next.field-0 ≡ false = search rules in
    traced_whole g.H.Handler.step (g.R.Read.remaining c.args.reader.now) (left c.loop.lines (g.R.Read.remaining c.loop.reader)) _ _ c.args.front.now
    (tracing c.loop.front c.loop.labels) c.loop.lines.number (Appends (g.W.Write.contents c.args.writer.now) (g.W.Write.contents c.loop.writer))
    (rw none at c.in_ok-next.ensures.next) c.loop.invariant.1

pub returns-then-not-branch-clause-used : goal.returns-then-not-branch-clause-used
returns-then-not-branch-clause-used g c = c.loop.invariant.0

pub returns-in_err-trace_line-clause-traced : goal.returns-in_err-trace_line-clause-traced
returns-in_err-trace_line-clause-traced g c =
    let from = g.W.Write.contents c.args.writer.now in
    let some : c.in_ok-next.field-0 ≡ true = search rules in
    let next : IsNextLine (left c.loop.lines (g.R.Read.remaining c.loop.reader)) (Ok true) c.line.result.now (left c.next.new.self (g.R.Read.remaining c.next.new.reader)) =
    rw (c.line.ensures) (rw some at c.in_ok-next.ensures.next) in
    let counted : c.number.result ≡ numbered true c.loop.lines.number = c.number.ensures ∙ rw some at c.in_ok-next.ensures.number in
    let p = err_from_is_err_and c.from_residual-in_err-trace_line.result c.from_residual-in_err-trace_line.ensures.1 in
    rw (p.1, p.2)
    (traced_stopped g.H.Handler.step (g.R.Read.remaining c.args.reader.now) _ _ c.line.result.now c.args.front.now (tracing c.loop.front c.loop.labels)
    (tracing c.trace_line.new.front c.trace_line.new.labels) c.loop.lines.number c.number.result from (g.W.Write.contents c.loop.writer)
    (g.W.Write.contents c.trace_line.new.writer) c.in_err-trace_line.field-0.0 next counted c.in_err-trace_line.ensures.line c.loop.invariant.1)

pub returns-in_err-trace_line-clause-stops : goal.returns-in_err-trace_line-clause-stops
returns-in_err-trace_line-clause-stops g c =
    let p = err_from_is_err_and c.from_residual-in_err-trace_line.result c.from_residual-in_err-trace_line.ensures.1 in
    rw (p.1, p.2)
    (line_stops g.H.Handler.step c.line.result.now c.number.result (tracing c.loop.front c.loop.labels) (tracing c.trace_line.new.front c.trace_line.new.labels)
    (Appends (g.W.Write.contents c.loop.writer) (g.W.Write.contents c.trace_line.new.writer)) c.in_err-trace_line.field-0.0 c.in_err-trace_line.ensures.line)

pub returns-in_err-trace_line-clause-used : goal.returns-in_err-trace_line-clause-used
returns-in_err-trace_line-clause-used g c =
    used_then g.H.Handler.step c.args.front.now c.loop.front c.trace_line.new.front c.loop.invariant.0 c.in_err-trace_line.ensures.used

pub returns-clause-traced : goal.returns-clause-traced
returns-clause-traced g c =
    traced_unread g.H.Handler.step (g.R.Read.remaining c.args.reader.now) (left c.loop.lines (g.R.Read.remaining c.loop.reader)) c.args.front.now
    (tracing c.loop.front c.loop.labels) c.loop.lines.number (Appends (g.W.Write.contents c.args.writer.now) (g.W.Write.contents c.loop.writer)) InputFault (inl refl)
    c.loop.invariant.1

pub returns-clause-used : goal.returns-clause-used
returns-clause-used g c = c.loop.invariant.0
