-- The list is passed, if there is one.
use Rattle.oai_host.proofs.SavedLemmas.{parts_none}
use Rattle.oai_host.proofs.saving.save_list_if.Goals as goal

pub returns-in-Some : goal.returns-in-Some
returns-in-Some g c = rw c.in-Some.is c.save_list.ensures

pub returns-in-None : goal.returns-in-None
returns-in-None g c = rw c.in-None.is (parts_none g.S.Sink.has c.args.repo.now.name.now c.args.repo.now.clock c.args.sink.now)
