-- What is gathered waits as before.
use Rattle.std.proofs.Common.{subst}
use Rattle.oai_serving.specs.Links.{IsSent, Link}
use Rattle.oai_serving.proofs.links.Link.write.Goals as goal

pub returns : goal.returns
returns g c =
    subst (λ (l : Link g.row.S.Denot). IsSent g.S.Stream.contents g.S.Stream.remaining l c.write_next.new.self) c.gather.ensures c.write_next.ensures
