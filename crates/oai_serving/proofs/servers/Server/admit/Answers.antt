-- The link begins with the stream that was accepted.
use Rattle.std.proofs.Common.{[], ◌∷◌, ◌+◌, refl}
use Rattle.oai_serving.proofs.PassLemmas.{passes_then}
use Rattle.oai_serving.proofs.RoundLemmas.{admitted, admitted_not}
use Rattle.oai_serving.specs.Accepted.{Known, known_of}
use Rattle.oai_serving.proofs.servers.Server.admit.Goals as goal

pub returns-then-is_err : goal.returns-then-is_err
returns-then-is_err g c =
    let mid : Known g.row.S.Denot = known_of (g.K.Sockets.accepted c.watch.new.self) (g.K.Sockets.gone c.watch.new.self) in
    rw (← c.self.view_is) (admitted_not g.S.Stream.contents g.S.Stream.remaining _ _ c.args.stream c.watch.new.stream _ _ refl refl refl c.watch.ensures.contents c.watch.ensures.remaining
    (passes_then _ mid _ [] [] [] ((c.self.inside.last + 1, c.watch.new.stream) ∷ []) (record { accepts = c.watch.ensures.accepted; lets_go = c.watch.ensures.gone })
    (record { accepts = c.let_go.ensures.accepted; lets_go = c.let_go.ensures.gone })))

pub returns : goal.returns
returns g c =
    rw (← c.self.view_is) (admitted g.S.Stream.contents g.S.Stream.remaining _ _ _ c.args.stream c.watch.new.stream _ c.keep.new.self c.keep.ensures.handler c.keep.ensures.last
    c.watch.ensures.contents c.watch.ensures.remaining (record { accepts = c.watch.ensures.accepted; lets_go = c.watch.ensures.gone }) (rw c.new-link.ensures at c.keep.ensures.links))
