-- A name that is no text is the name of none.
use Rattle.std.proofs.Common.{sym}
use Rattle.oai_host.proofs.AgainLemmas.{place_utf8}
use Rattle.oai_host.proofs.repositories.Repositories.place_named.Goals as goal

pub returns-in-Err : goal.returns-in-Err
returns-in-Err c = sym (place_utf8 c.args.self.now c.args.name.now c.requires c.in-Err.ensures.cases.0)
