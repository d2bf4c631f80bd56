-- A piece changes its connection, and its messages are performed.
use Rattle.std.proofs.Common.{w64, FitsSigned, to_z-of_z}
use Rattle.oai_cli.proofs.Apart.{piece_apart}
use Rattle.oai_cli.proofs.UsedLemmas.{used_piece}
use Rattle.oai_cli.proofs.connections.take_in.Goals as goal

pub returns-clause-piece : goal.returns-clause-piece
returns-clause-piece g c =
    let fits : FitsSigned w64 c.args.moment = c.ranges.moment in
    simp to_z-of_z at c.piece.ensures

pub returns-clause-apart : goal.returns-clause-apart
returns-clause-apart g c = piece_apart g.H.Handler.step c.args.conn.number _ c.args.piece.now c.args.front.now c.piece.result c.piece.new.self c.piece.ensures

pub returns-clause-used : goal.returns-clause-used
returns-clause-used g c = used_piece g.H.Handler.step c.args.conn.number _ c.args.piece.now c.args.front.now c.piece.result c.piece.new.self c.piece.ensures
