-- The exchange of the journaled handler.
use Rattle.std.proofs.Common.{w64, FitsSigned, to_z-of_z, refl}
use Rattle.oai_durable.proofs.checkpointed.CheckpointedHandler.exchange.Goals as goal

pub returns : goal.returns
returns g c =
    let fits : FitsSigned w64 c.args.moment = c.ranges.moment in
    let exchange = simp to_z-of_z at c.exchange.ensures in
    rw (← c.self.view_is) (record { exchange = exchange; writing = refl; unsynced = refl })
