-- Each is accepted by itself.
use Rattle.oai_serving.proofs.PassLemmas.{passes_none}
use Rattle.oai_serving.proofs.RoundLemmas.{accepted_none, accepted_then}
use Rattle.oai_serving.proofs.servers.Server.accept_all.Goals as goal

pub returns-then-second-self : goal.returns-then-second-self
returns-then-second-self g c = accepted_none g.S.Stream.contents g.S.Stream.remaining _ _ c.args.self.now (passes_none _)

pub loop-init : goal.loop-init
loop-init g c = rw (← c.self.view_is) (accepted_none g.S.Stream.contents g.S.Stream.remaining _ _ _ (passes_none _))

pub loop-preserved : goal.loop-preserved
loop-preserved g c =
    accepted_then g.S.Stream.contents g.S.Stream.remaining _ _ _ c.args.self.now c.loop.self c.accept_next.new.self c.loop.invariant c.accept_next.ensures

pub returns-then-not-accept_next : goal.returns-then-not-accept_next
returns-then-not-accept_next g c =
    accepted_then g.S.Stream.contents g.S.Stream.remaining _ _ _ c.args.self.now c.loop.self c.accept_next.new.self c.loop.invariant c.accept_next.ensures
