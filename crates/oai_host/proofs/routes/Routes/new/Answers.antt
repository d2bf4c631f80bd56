-- The route that is put in is this row.
use Rattle.matchit.proofs.OnLiterals.{matchit_on_literals}
use Rattle.oai_host.proofs.routes.Routes.new.Goals as goal

pub invariant_of-result : goal.invariant_of-result
unfolding matchit_on_literals
invariant_of-result c =
    let one = rw c.in-Ok.is at c.insert.ensures in
    record { rows = rw c.new-router.ensures at one.1 }
