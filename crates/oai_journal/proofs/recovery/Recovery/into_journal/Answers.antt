use Rattle.std.proofs.Common.{subst}
use Rattle.oai_journal.specs.Kept.{IsAtEnd}
use Rattle.oai_journal.proofs.RecoveryLemmas.{holds_all}
use Rattle.oai_journal.proofs.recovery.Recovery.into_journal.Goals as goal

pub returns : goal.returns
returns g c first entries read = holds_all _ _ c.args.self c.at_end.result first entries c.if-not-self.false read
    (subst (λ d. IsAtEnd c.at_end.result d c.args.self.at c.args.self.digest) c.into_disk.ensures c.at_end.ensures)
