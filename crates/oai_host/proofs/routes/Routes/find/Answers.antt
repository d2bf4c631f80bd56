-- A name is a text.
use Rattle.std.proofs.lemmas.Bool.{false_from_ne_true}
use Rattle.oai_settings.specs.Config.{is_repository_name}
use Rattle.oai_host.proofs.RouteLemmas.{name_utf8}
use Rattle.oai_host.proofs.routes.Routes.find.Goals as goal

pub returns-in-Err-clause-none : goal.returns-in-Err-clause-none
returns-in-Err-clause-none c = false_from_ne_true (is_repository_name c.args.behind.now) (λ is. c.in-Err.ensures.cases.0 (name_utf8 c.args.behind.now is))
