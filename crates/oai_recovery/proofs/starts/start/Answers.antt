-- A checkpoint was written before the journal was prepared.
use Rattle.std.proofs.Common.{IsTrue, subst}
use Rattle.oai_recovery.specs.Renewals.{is_checkpoint}
use Rattle.oai_recovery.specs.declared.origins.Origin.{Origin}
use Rattle.oai_recovery.proofs.starts.start.Goals as goal

pub returns-clause-renewed : goal.returns-clause-renewed
returns-clause-renewed g c = λ is. c.in_ok-prepared.ensures.renewed (subst (λ (o : Origin). IsTrue (is_checkpoint o)) c.in_ok-started.ensures.origin is)

pub returns-then-branch-clause-started : goal.returns-then-branch-clause-started
returns-then-branch-clause-started g c = rw (c.deref-then-branch.ensures.value, c.into_parts-text.ensures.text) at c.shorten.ensures.started
