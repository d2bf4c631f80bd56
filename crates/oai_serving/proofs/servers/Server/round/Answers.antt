-- The steps of a round, one behind the other.
use Rattle.std.proofs.Common.{refl}
use Rattle.oai_serving.proofs.RoundLemmas.{round_none, round_of}
use Rattle.oai_serving.proofs.servers.Server.round.Goals as goal

pub returns-in_default : goal.returns-in_default
returns-in_default g c =
    round_none g.H.Handler.step g.H.Settled.settled g.S.Stream.contents g.S.Stream.remaining _ _ c.args.self.now _
    (record { accepts = c.wait.ensures.accepted; lets_go = c.wait.ensures.gone }) refl

pub returns-in_default-moment_of : goal.returns-in_default-moment_of
returns-in_default-moment_of g c =
    round_none g.H.Handler.step g.H.Settled.settled g.S.Stream.contents g.S.Stream.remaining _ _ c.args.self.now _
    (record { accepts = c.wait.ensures.accepted; lets_go = c.wait.ensures.gone }) refl

pub returns-in_default-second_of : goal.returns-in_default-second_of
returns-in_default-second_of g c =
    round_none g.H.Handler.step g.H.Settled.settled g.S.Stream.contents g.S.Stream.remaining _ _ c.args.self.now _
    (record { accepts = c.wait.ensures.accepted; lets_go = c.wait.ensures.gone }) refl

pub returns : goal.returns
returns g c =
    round_of g.H.Handler.step g.H.Settled.settled g.S.Stream.contents g.S.Stream.remaining _ _ _ _ c.args.self.now c.note_all.new.self c.end_links.new.self c.accept_all.new.self
    c.serve_links.new.self c.serve_links.result (record { accepts = c.wait.ensures.accepted; lets_go = c.wait.ensures.gone }) c.note_all.ensures c.end_links.ensures c.accept_all.ensures
    c.serve_links.ensures
