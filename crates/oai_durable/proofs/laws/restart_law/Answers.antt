use Rattle.std.proofs.Common.{[]}
use Rattle.oai_durable.proofs.LifeLemmas.{lives_among}
use Rattle.oai_durable.proofs.laws.restart_law.Goals as goal

pub returns : goal.returns
returns g c = λ begun lives left are. lives_among (record { redone = g.H.Replayed.redone; restored = g.H.Replayed.restored }) g.H.Replayed.reply begun [] lives left are
