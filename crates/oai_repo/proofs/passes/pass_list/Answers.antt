-- What is left is by what the request comes to.
use Rattle.std.proofs.Common.{sym, ap}
use Rattle.oai_repo.specs.Listing.{Response}
use Rattle.oai_repo.specs.State.{OpenLists}
use Rattle.oai_repo.proofs.passes.pass_list.Goals as goal

pub pass_selection-requires-clause-selection : goal.pass_selection-requires-clause-selection
pass_selection-requires-clause-selection g c = (rw c.in-Ok.is at c.in_ok-asked.ensures).0

pub returns-in-Ok-clause-passed : goal.returns-in-Ok-clause-passed
returns-in-Ok-clause-passed g c =
    let same = (rw c.in-Ok.is at c.in_ok-asked.ensures).1 c.args.lists.now (g.V.Versions.lists c.args.store.now) in
    rw same c.pass_selection.ensures.passed

pub returns-in-Err-clause-passed : goal.returns-in-Err-clause-passed
returns-in-Err-clause-passed g c = λ honest.
    let all = g.V.Versions.lists c.args.store.now in
    let error = (rw c.in-Err.is at c.in_ok-asked.ensures) c.args.lists.now all (c.requires.ready.indexed honest) in
    sym (ap (λ (r : Response × OpenLists). r.1) error)
