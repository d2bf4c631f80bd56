-- The parameter of the route that the path matches is all of the path.
use Rattle.oai_host.proofs.RouteLemmas.{has_name, is_given, no_name, not_none}
use Rattle.oai_host.proofs.routes.Routes.find_text.Goals as goal

pub returns-in-Ok-clause-found : goal.returns-in-Ok-clause-found
returns-in-Ok-clause-found c =
    let has = has_name c.args.behind.now _ c.utf8.behind (rw c.args.self.now.rows at c.in-Ok.ensures.found) in
    is_given c.args.behind.now _ c.get.result has.taken (rw c.in-Ok.ensures.path at (c.get.ensures (rw c.in-Ok.ensures.path has.text)))

pub returns-in-Ok-clause-none : goal.returns-in-Ok-clause-none
returns-in-Ok-clause-none c =
    let has = has_name c.args.behind.now _ c.utf8.behind (rw c.args.self.now.rows at c.in-Ok.ensures.found) in
    not_none _ c.args.behind.now _ c.get.result has.taken (rw c.in-Ok.ensures.path at (c.get.ensures (rw c.in-Ok.ensures.path has.text)))

pub returns-in-Err-clause-none : goal.returns-in-Err-clause-none
returns-in-Err-clause-none c = no_name c.args.behind.now (rw (c.in-Err.is, c.args.self.now.rows) at c.at.ensures.missing)
