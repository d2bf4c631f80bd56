use Rattle.std.proofs.Common.{⊎_elim, subst, take}
use Rattle.oai_journal.proofs.DamageLemmas.{damaged_not_ended}
use Rattle.oai_durable.specs.Recovered.{TellsDamage}
use Rattle.oai_durable.proofs.laws.recovery_law.Goals as goal

pub returns : goal.returns
returns g c = λ journal entries durable file fault held left unchanged tells at is.
    let survives = (held.1).survives file left in
    ⊎_elim (λ damaged. damaged_not_ended file at held.0 (take survives.count entries) damaged survives.ends) (unchanged at) (subst (TellsDamage file) is tells)
