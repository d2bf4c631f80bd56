-- The piece comes, and what is put out is taken.
use Rattle.std.proofs.Common.{w64, FitsSigned, to_z-of_z}
use Rattle.oai_cli.proofs.Apart.{apart_then}
use Rattle.oai_cli.proofs.UsedLemmas.{used_then}
use Rattle.oai_cli.proofs.serve.streams.answer.Goals as goal

pub returns-in_default-Err-clause-apart : goal.returns-in_default-Err-clause-apart
returns-in_default-Err-clause-apart g c =
    apart_then c.args.conn.number c.args.front.now c.take_in-taken.new.front c.flush_output-written.new.front c.take_in-taken.ensures.apart c.flush_output-written.ensures.apart

pub returns-in_default-Err-clause-used : goal.returns-in_default-Err-clause-used
returns-in_default-Err-clause-used g c =
    used_then g.H.Handler.step c.args.front.now c.take_in-taken.new.front c.flush_output-written.new.front c.take_in-taken.ensures.used c.flush_output-written.ensures.used

pub returns-in-Err-Ok-clause-apart : goal.returns-in-Err-Ok-clause-apart
returns-in-Err-Ok-clause-apart g c =
    apart_then c.args.conn.number c.args.front.now c.take_in-taken.new.front c.flush_output-written.new.front c.take_in-taken.ensures.apart c.flush_output-written.ensures.apart

pub returns-in-Err-Ok-clause-used : goal.returns-in-Err-Ok-clause-used
returns-in-Err-Ok-clause-used g c =
    used_then g.H.Handler.step c.args.front.now c.take_in-taken.new.front c.flush_output-written.new.front c.take_in-taken.ensures.used c.flush_output-written.ensures.used

pub returns-in-Ok-Ok-clause-apart : goal.returns-in-Ok-Ok-clause-apart
returns-in-Ok-Ok-clause-apart g c =
    apart_then c.args.conn.number c.args.front.now c.take_in-taken.new.front c.flush_output-written.new.front c.take_in-taken.ensures.apart c.flush_output-written.ensures.apart

pub returns-in-Ok-Ok-clause-used : goal.returns-in-Ok-Ok-clause-used
returns-in-Ok-Ok-clause-used g c =
    used_then g.H.Handler.step c.args.front.now c.take_in-taken.new.front c.flush_output-written.new.front c.take_in-taken.ensures.used c.flush_output-written.ensures.used

pub returns-in-Err-Ok-clause-unfinished : goal.returns-in-Err-Ok-clause-unfinished
returns-in-Err-Ok-clause-unfinished g c = λ _.
    let fits : FitsSigned w64 c.args.moment = c.ranges.moment in
    let taken = simp to_z-of_z at c.take_in-taken.ensures.piece in (
      c.in-Err-Ok.field-0-0,
      record {
        mid = c.take_in-taken.new.front;
        taken = rw c.in-Err-Ok.is-0 at taken;
        written = rw c.in-Err-Ok.is-1 at c.flush_output-written.ensures.written;
        emptied = rw c.in-Err-Ok.is-1 at c.flush_output-written.ensures.emptied;
      },
    )

pub returns-in-Ok-Ok-clause-answered : goal.returns-in-Ok-Ok-clause-answered
returns-in-Ok-Ok-clause-answered g c =
    let fits : FitsSigned w64 c.args.moment = c.ranges.moment in
    let taken = rw c.in-Ok-Ok.is-0 at c.take_in-taken.ensures.piece in
    record {
      mid = c.take_in-taken.new.front;
      taken = simp to_z-of_z at taken;
      written = rw c.in-Ok-Ok.is-1 at c.flush_output-written.ensures.written;
      emptied = rw c.in-Ok-Ok.is-1 at c.flush_output-written.ensures.emptied;
    }
