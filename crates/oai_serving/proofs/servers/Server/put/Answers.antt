-- Links are written.
use Rattle.std.proofs.Common.{refl}
use Rattle.oai_serving.proofs.servers.Server.put.Goals as goal

pub returns : goal.returns
returns g c = rw (← c.self.view_is) (record { handler = refl; last = refl; links = c.put_all.ensures })
