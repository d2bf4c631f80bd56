-- A piece that came and was answered is a turn.
use Rattle.oai_cli.proofs.PieceLemmas.{pieces_answered}
use Rattle.oai_cli.proofs.serve.streams.read_on.Goals as goal

pub returns-clause-pieces : goal.returns-clause-pieces
returns-clause-pieces g c =
    pieces_answered g.H.Handler.step c.args.conn.number _ _ c.args.front.now c.answer.new.front _ c.answer.result c.answer.ensures.answered
