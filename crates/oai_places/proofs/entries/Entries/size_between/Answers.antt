use Rattle.oai_places.specs.Pages.{between}
use Rattle.oai_places.proofs.EntryLemmas.{size_is}
use Rattle.oai_places.proofs.entries.Entries.size_between.Goals as goal

pub returns : goal.returns
returns c = size_is c.entries.result.now (between c.args.from c.args.to c.args.self.now) c.entries.ensures
