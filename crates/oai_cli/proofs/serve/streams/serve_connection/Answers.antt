-- Each turn changes the one connection alone.
use Rattle.std.proofs.Common.{◌≡◌, false, refl, rules}
use Rattle.std.proofs.lemmas.Result.{err_from_is_err_and}
use Rattle.oai_cli.proofs.Apart.{apart_same, apart_then}
use Rattle.oai_cli.proofs.PieceLemmas.{read_on_opened, pieces_none, pieces_then}
use Rattle.oai_cli.proofs.UsedLemmas.{used_none, used_then}
use Rattle.oai_cli.proofs.serve.streams.serve_connection.Goals as goal

pub returns-in_err-read_on-clause-apart : goal.returns-in_err-read_on-clause-apart
returns-in_err-read_on-clause-apart g c =
    apart_then c.args.conn.number c.args.front.now c.loop.front c.read_on.new.front c.loop.invariant.apart c.read_on.ensures.apart

pub returns-in_err-read_on-clause-used : goal.returns-in_err-read_on-clause-used
returns-in_err-read_on-clause-used g c =
    used_then g.H.Handler.step c.args.front.now c.loop.front c.read_on.new.front c.loop.invariant.used c.read_on.ensures.used

pub returns-in_err-read_on-clause-err : goal.returns-in_err-read_on-clause-err
returns-in_err-read_on-clause-err g c =
    let p = err_from_is_err_and c.from_residual.result c.from_residual.ensures.1 in
    rw (p.1, p.2) (read_on_opened c.in_err-read_on.field-0.0 c.in_err-read_on.ensures.err)

pub returns-then-not-branch-clause-apart : goal.returns-then-not-branch-clause-apart
returns-then-not-branch-clause-apart g c =
    apart_then c.args.conn.number c.args.front.now c.loop.front c.read_on.new.front c.loop.invariant.apart c.read_on.ensures.apart

pub returns-then-not-branch-clause-used : goal.returns-then-not-branch-clause-used
returns-then-not-branch-clause-used g c =
    used_then g.H.Handler.step c.args.front.now c.loop.front c.read_on.new.front c.loop.invariant.used c.read_on.ensures.used

pub loop-preserved : goal.loop-preserved
loop-preserved g c = record {
  apart = apart_then c.args.conn.number c.args.front.now c.loop.front c.read_on.new.front c.loop.invariant.apart c.read_on.ensures.apart;
  used = used_then g.H.Handler.step c.args.front.now c.loop.front c.read_on.new.front c.loop.invariant.used c.read_on.ensures.used;
  pieces = pieces_then g.H.Handler.step c.args.conn.number c.args.front.now c.loop.front c.read_on.new.front c.loop.invariant.pieces c.in_ok-read_on.ensures.pieces;
  room = search rules;
}

pub loop-init : goal.loop-init
loop-init g c = record {
  apart = apart_same c.args.conn.number c.args.front.now;
  used = used_none g.H.Handler.step c.args.front.now c.args.front.now refl;
  pieces = pieces_none g.H.Handler.step c.args.conn.number c.args.front.now c.args.front.now refl;
  room = search rules;
}

pub returns-clause-apart : goal.returns-clause-apart
returns-clause-apart g c = c.loop.invariant.apart

pub returns-clause-used : goal.returns-clause-used
returns-clause-used g c = c.loop.invariant.used

pub returns-then-not-branch-clause-pieces : goal.returns-then-not-branch-clause-pieces
returns-then-not-branch-clause-pieces g c =
    pieces_then g.H.Handler.step c.args.conn.number c.args.front.now c.loop.front c.read_on.new.front c.loop.invariant.pieces c.in_ok-read_on.ensures.pieces

pub returns-then-not-branch-clause-over : goal.returns-then-not-branch-clause-over
returns-then-not-branch-clause-over g c =
    let left : c.in_ok-read_on.field-0 ≡ false = search rules in
    (rw left at c.in_ok-read_on.ensures.over) refl
