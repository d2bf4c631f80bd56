-- It is no checkpoint.
use Rattle.std.proofs.lemmas.Bool.{false≢true}
use Rattle.oai_recovery.specs.declared.origins.Origin.TheVariants.{Begun}
use Rattle.oai_recovery.proofs.RenewalLemmas.{renewed_over}
use Rattle.oai_recovery.proofs.journals.begin.Goals as goal

pub returns-clause-renewed : goal.returns-clause-renewed
returns-clause-renewed g c = renewed_over _ _ Begun c.prepare_begun.result (λ is. absurd (false≢true is)) c.prepare_begun.ensures.origin
