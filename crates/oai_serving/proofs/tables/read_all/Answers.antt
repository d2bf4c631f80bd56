-- Each link has a turn.
use Rattle.oai_serving.proofs.TableLemmas.{turned_none, turned_then}
use Rattle.oai_serving.proofs.tables.read_all.Goals as goal

pub loop-init : goal.loop-init
loop-init g c = turned_none g.H.Handler.step g.S.Stream.contents g.S.Stream.remaining c.args.time.moment c.args.links.now c.args.handler.now

pub loop-preserved : goal.loop-preserved
loop-preserved g c =
    turned_then g.H.Handler.step g.S.Stream.contents g.S.Stream.remaining c.args.time.moment c.args.links.now c.loop.links c.read_at.new.links
    c.args.handler.now c.loop.handler c.read_at.new.handler c.loop.invariant c.read_at.ensures
