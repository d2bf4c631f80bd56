-- Links are taken away.
use Rattle.std.proofs.Common.{refl}
use Rattle.oai_serving.proofs.TableLemmas.{ended_then}
use Rattle.oai_serving.proofs.servers.Server.end_links.Goals as goal

pub returns : goal.returns
returns g c = rw (← c.self.view_is) (record {
  handler = refl;
  last = refl;
  links = ended_then g.S.Stream.contents g.S.Stream.remaining _ _ _ c.self.inside.links c.end_all.new.links c.shed_all.new.links c.end_all.ensures c.shed_all.ensures;
})
