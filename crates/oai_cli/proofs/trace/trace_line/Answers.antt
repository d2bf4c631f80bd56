-- An empty line does nothing; any other tells an event, which is followed, or the program stops.
use Rattle.std.proofs.Common.{◌≡◌, None, Some, true, false, refl, rules}
use Rattle.std.specs.Io.KnownBytes.{Appends}
use Rattle.oai_cli.specs.ExchangeLines.{is_line_filled}
use Rattle.oai_cli.specs.Traces.{IsConnectionOf, tracing}
use Rattle.oai_cli.proofs.TraceLemmas.{line_followed, line_forgotten, line_passed}
use Rattle.oai_cli.proofs.UsedLemmas.{used_none, used_then}
use Rattle.oai_cli.proofs.trace.trace_line.Goals as goal

pub returns-then-is_empty-clause-line : goal.returns-then-is_empty-clause-line
returns-then-is_empty-clause-line g c =
    let empty : is_line_filled c.args.line.now ≡ false = search rules in
    line_passed g.H.Handler.step c.args.line.now c.args.number (tracing c.args.front.now c.args.labels.now) (g.W.Write.contents c.args.writer.now) empty

pub returns-in-Some-clause-line : goal.returns-in-Some-clause-line
returns-in-Some-clause-line g c =
    let full : is_line_filled c.args.line.now ≡ true = search rules in
    let of : IsConnectionOf c.in_ok-event.event.label (tracing c.args.front.now c.args.labels.now) (Some c.in-Some.conn) (tracing c.connection_of.new.front c.connection_of.new.labels) =
    rw c.in-Some.is at c.in_ok-conn.ensures.of in
    line_followed g.H.Handler.step c.args.line.now c.args.number c.in_ok-event.event c.in-Some.conn (tracing c.args.front.now c.args.labels.now)
    (tracing c.connection_of.new.front c.connection_of.new.labels) (tracing c.trace_event.new.front c.trace_event.new.labels)
    (Appends (g.W.Write.contents c.args.writer.now) (g.W.Write.contents c.trace_event.new.writer)) c.trace_event.result full c.in_ok-event.ensures of c.trace_event.ensures.traced
    c.trace_event.ensures.err c.trace_event.ensures.apart

pub returns-clause-line : goal.returns-clause-line
returns-clause-line g c =
    let full : is_line_filled c.args.line.now ≡ true = search rules in
    let of : IsConnectionOf c.in_ok-event.event.label (tracing c.args.front.now c.args.labels.now) None (tracing c.connection_of.new.front c.connection_of.new.labels) =
    rw c.in-None.is at c.in_ok-conn.ensures.of in
    line_forgotten g.H.Handler.step c.args.line.now c.args.number c.in_ok-event.event (tracing c.args.front.now c.args.labels.now)
    (tracing c.connection_of.new.front c.connection_of.new.labels) (g.W.Write.contents c.args.writer.now) full c.in_ok-event.ensures of

pub returns-then-is_empty-clause-used : goal.returns-then-is_empty-clause-used
returns-then-is_empty-clause-used g c = used_none g.H.Handler.step c.args.front.now c.args.front.now refl

pub returns-in_err-event-clause-used : goal.returns-in_err-event-clause-used
returns-in_err-event-clause-used g c = used_none g.H.Handler.step c.args.front.now c.args.front.now refl

pub returns-in-Some-clause-used : goal.returns-in-Some-clause-used
returns-in-Some-clause-used g c =
    used_then g.H.Handler.step c.args.front.now c.connection_of.new.front c.trace_event.new.front c.connection_of.ensures.used c.trace_event.ensures.used
