use Rattle.oai_durable.proofs.MoveLemmas.{moved_lives}
use Rattle.oai_durable.proofs.laws.moved_law.Goals as goal

pub returns : goal.returns
returns g c = λ begun lives left are. moved_lives (record { redone = g.H.Replayed.redone; restored = g.H.Replayed.restored }) g.H.Replayed.reply begun lives left are
