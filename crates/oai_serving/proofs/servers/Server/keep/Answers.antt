-- It stands under a key that had none, or its stream was let go.
use Rattle.std.proofs.Common.{inl, inr}
use Rattle.oai_serving.proofs.PassLemmas.{passes_none}
use Rattle.oai_serving.proofs.RoundLemmas.{not_put, put_in}
use Rattle.oai_serving.proofs.servers.Server.keep.Goals as goal
use Rattle.oai_serving.proofs.servers.Server.keep.Goals.{in-Err, in-Ok}

pub returns-clause-links : goal.returns-clause-links
returns-clause-links g c =
    rw (← c.self.view_is) (elim c.match-insert.branch [
      | in-Ok w ↦
          rw w.sockets-is (inl (passes_none _, put_in c.args.link c.self.inside.links c.insert.new.self c.insert.result _ w.in-Ok.is c.insert.ensures.was_vacant c.insert.ensures.updates))
      | in-Err w ↦
          rw w.sockets-is (inr (
            rw (rw w.in-Err.is at c.insert.ensures.value_returned) at w.let_go.ensures,
            not_put c.self.inside.links c.insert.new.self c.insert.result _ w.in-Err.is c.insert.ensures.err,
          ))
    ])
