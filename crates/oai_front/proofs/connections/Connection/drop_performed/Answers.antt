use Rattle.std.proofs.Common.{arith, refl}
use Rattle.oai_front.proofs.connections.Connection.drop_performed.Goals as goal

pub invariant_of-self : goal.invariant_of-self
invariant_of-self c =
    let v = c.self.invariant in
    record { start = omega arith; head = rw c.drop_front.ensures v.head; filled = v.filled; taken = v.taken }

pub returns : goal.returns
returns c = rw (← c.self.view_is, c.drop_front.ensures) refl
