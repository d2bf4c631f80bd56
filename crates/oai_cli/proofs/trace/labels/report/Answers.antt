-- What is written is what the connection was to put out, and that it is closed.
use Rattle.std.proofs.Common.{sym, ◌∙◌}
use Rattle.std.specs.BTreeMap.{get}
use Rattle.std.specs.Ordering.{nat_cmp}
use Rattle.oai_startup.proofs.KnownLemmas.{on_ok, on_ok_so}
use Rattle.oai_cli.proofs.Traced.{left_open, left_over, named_open, named_over, told_open, told_over}
use Rattle.oai_cli.proofs.UsedLemmas.{used_then}
use Rattle.oai_cli.proofs.trace.labels.report.Goals as goal

pub returns-then-reads_nothing-clause-written : goal.returns-then-reads_nothing-clause-written
returns-then-reads_nothing-clause-written g c =
    on_ok_so c.forget.result _
    (told_over c.args.conn.number c.args.label c.args.front.now c.write_output.new.front (g.W.Write.contents c.args.writer.now) (g.W.Write.contents c.write_output.new.writer)
    (g.W.Write.contents c.write_close.new.writer) c.in_ok-write_output.ensures.emptied (sym c.reads_nothing.ensures ∙ c.if-reads_nothing.true)
    c.in_ok-write_output.ensures.written c.in_ok-write_close.ensures.written)

pub returns-then-reads_nothing-clause-left : goal.returns-then-reads_nothing-clause-left
returns-then-reads_nothing-clause-left g c =
    on_ok_so c.forget.result _
    (left_over c.args.conn.number c.args.front.now c.write_output.new.front c.forget.new.front c.in_ok-write_output.ensures.emptied
    (sym c.reads_nothing.ensures ∙ c.if-reads_nothing.true) c.forget.ensures.none)

pub returns-then-reads_nothing-clause-named : goal.returns-then-reads_nothing-clause-named
returns-then-reads_nothing-clause-named g c =
    on_ok c.forget.result _ _
    (λ none. named_over c.args.conn c.args.label c.args.front.now c.write_output.new.front (get nat_cmp c.args.labels.now) (get nat_cmp c.forget.new.labels)
    c.in_ok-write_output.ensures.emptied (sym c.reads_nothing.ensures ∙ c.if-reads_nothing.true) none c.forget.ensures.others) c.forget.ensures.named

pub returns-clause-written : goal.returns-clause-written
returns-clause-written g c =
    told_open c.args.conn.number c.args.label c.args.front.now c.write_output.new.front (g.W.Write.contents c.args.writer.now) (g.W.Write.contents c.write_output.new.writer)
    c.in_ok-write_output.ensures.emptied (sym c.reads_nothing.ensures ∙ c.if-reads_nothing.false) c.in_ok-write_output.ensures.written

pub returns-clause-left : goal.returns-clause-left
returns-clause-left g c =
    left_open c.args.conn.number c.args.front.now c.write_output.new.front c.in_ok-write_output.ensures.emptied (sym c.reads_nothing.ensures ∙ c.if-reads_nothing.false)

pub returns-clause-named : goal.returns-clause-named
returns-clause-named g c =
    named_open c.args.conn c.args.label c.args.front.now c.write_output.new.front (get nat_cmp c.args.labels.now) c.in_ok-write_output.ensures.emptied
    (sym c.reads_nothing.ensures ∙ c.if-reads_nothing.false) c.requires

pub returns-then-reads_nothing-clause-used : goal.returns-then-reads_nothing-clause-used
returns-then-reads_nothing-clause-used g c =
    used_then g.H.Handler.step c.args.front.now c.write_output.new.front c.forget.new.front c.write_output.ensures.used c.forget.ensures.used
