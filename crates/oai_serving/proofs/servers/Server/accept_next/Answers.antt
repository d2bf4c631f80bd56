-- The next is accepted, or none is.
use Rattle.oai_serving.proofs.PassLemmas.{passes_none}
use Rattle.oai_serving.proofs.RoundLemmas.{accepted_none, accepted_one}
use Rattle.oai_serving.specs.Accepted.{Known, known_of}
use Rattle.oai_serving.proofs.servers.Server.accept_next.Goals as goal

pub returns-then-not-self : goal.returns-then-not-self
returns-then-not-self g c = accepted_none g.S.Stream.contents g.S.Stream.remaining _ _ c.args.self.now (passes_none _)

pub returns-in-Ok-Some : goal.returns-in-Ok-Some
returns-in-Ok-Some g c =
    let mid : Known g.row.S.Denot = known_of (g.K.Sockets.accepted c.accept.new.self) (g.K.Sockets.gone c.accept.new.self) in
    accepted_one g.S.Stream.contents g.S.Stream.remaining _ mid _ c.in-Ok-Some.stream c.args.self.now c.admit.new.self
    (record { accepts = rw c.in-Ok-Some.field-0-is at c.in-Ok-Some.ensures.accepted; lets_go = c.in-Ok-Some.ensures.gone }) c.admit.ensures
