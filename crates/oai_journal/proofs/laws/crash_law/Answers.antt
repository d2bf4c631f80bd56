use Rattle.std.proofs.Common.{take}
use Rattle.oai_journal.proofs.DamageLemmas.{damaged_not_ended}
use Rattle.oai_journal.proofs.laws.crash_law.Goals as goal

pub returns : goal.returns
returns g c = λ journal entries durable file at held left damaged.
    let survives = (held.1).survives file left in
    damaged_not_ended file at held.0 (take survives.count entries) damaged survives.ends
