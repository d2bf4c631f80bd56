-- The others stay.
use Rattle.std.proofs.Common.{◌∙◌, sym}
use Rattle.oai_serving.proofs.PassLemmas.{passes_none}
use Rattle.oai_serving.proofs.TableLemmas.{ended_away, ended_none}
use Rattle.oai_serving.proofs.tables.take_away.Goals as goal

pub returns-in-Some : goal.returns-in-Some
returns-in-Some g c =
    ended_away g.S.Stream.contents g.S.Stream.remaining _ _ c.args.links.now c.try_remove.new.self c.args.key c.in-Some.link (sym c.try_remove.ensures.value ∙ c.in-Some.is)
    c.try_remove.ensures.updates (rw c.in-Some.is at c.try_remove.ensures.len) c.let_go.ensures

pub returns-in-None : goal.returns-in-None
returns-in-None g c = rw (rw c.in-None.is at c.try_remove.ensures.absent) (ended_none g.S.Stream.contents g.S.Stream.remaining _ _ c.args.links.now (passes_none _))
