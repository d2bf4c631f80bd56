-- Without a fault the exchange leaves and is answered what its call leaves and is answered.
use Rattle.std.proofs.Common.{FitsSigned, List, subst, sym, w64}
use Rattle.std.proofs.lemmas.Int.{to_z-of_z}
use Rattle.oai_http.specs.Exchanges.{asked_by, call_at}
use Rattle.oai_host.specs.Hosts.{NamedPart}
use Rattle.oai_host.specs.Unsaved.{AreSavedBy}
use Rattle.oai_host.proofs.RedoLemmas.{redone_whole, replied_whole}
use Rattle.oai_host.proofs.host.HostReplayed.exchange_recorded.Goals as goal

pub returns-clause-whole : goal.returns-clause-whole
returns-clause-whole g c = λ honest none.
    let fits : FitsSigned w64 c.args.moment = c.ranges.moment in
    let done = simp to_z-of_z at c.exchange_recorded.ensures in
    redone_whole (call_at c.args.moment (asked_by c.args.exchange.now)) c.exchange_recorded.result.answer c.args.self.now c.exchange_recorded.new.self honest done.exchanged none

pub returns-clause-reply : goal.returns-clause-reply
returns-clause-reply g c = λ honest none.
    let fits : FitsSigned w64 c.args.moment = c.ranges.moment in
    let done = simp to_z-of_z at c.exchange_recorded.ensures in
    replied_whole (call_at c.args.moment (asked_by c.args.exchange.now)) c.exchange_recorded.result.answer c.args.self.now c.exchange_recorded.new.self honest done.exchanged none

pub returns-clause-saving : goal.returns-clause-saving
returns-clause-saving g c = λ state parts saved.
    let fits : FitsSigned w64 c.args.moment = c.ranges.moment in
    subst (λ (left : List NamedPart). AreSavedBy left state parts) (sym (simp to_z-of_z at c.exchange_recorded.ensures).exchanged.unsaved) saved
