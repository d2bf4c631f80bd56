use Rattle.oai_journal.proofs.DamageLemmas.{damaged_not_ended}
use Rattle.oai_journal.proofs.laws.damage_law.Goals as goal

pub returns : goal.returns
returns c file at first entries damaged ends = damaged_not_ended file at first entries damaged ends
