use Rattle.std.proofs.Common.{ap, arith}
use Rattle.oai_front.specs.Connections.{Connection}
use Rattle.oai_front.proofs.Numbered.{table_pushed}
use Rattle.oai_front.proofs.fronts.Front.open.Goals as goal

pub invariant_of-self-2 : goal.invariant_of-self-2
invariant_of-self-2 g c =
    let below = c.self.invariant.below in
    rw (c.push.ensures, c.in-Ok.ensures.items) (table_pushed c.self.inside.connections.items c.self.inside.last c.new.result (ap (λ (d : Connection). d.number) c.new.ensures) (omega (arith, below, c.if-number.false)) c.self.invariant)
