-- What is to be replayed is dropped.
use Rattle.std.proofs.Common.{FitsSigned, w64}
use Rattle.std.proofs.lemmas.Int.{to_z-of_z}
use Rattle.oai_host.proofs.host.Host.exchange.Goals as goal

pub returns : goal.returns
returns g c =
    let fits : FitsSigned w64 c.args.moment = c.ranges.moment in
    (simp to_z-of_z at c.exchange_recorded-answer.ensures).exchanged
