use Rattle.oai_places.proofs.TestedLemmas.{reads_forgotten}
use Rattle.oai_places.proofs.reading.find_at.Goals as goal

pub returns-in-Err-clause-pages : goal.returns-in-Err-clause-pages
returns-in-Err-clause-pages g c =
    reads_forgotten g.P.PagePool c.in-Err.fault c.args.pages.now c.find_in.new.pages c.forget_damaged.new.pages c.in-Err.ensures.pages c.forget_damaged.ensures
