use Rattle.oai_places.proofs.PutLemmas.{put_found, put_missing, put_where}
use Rattle.oai_places.proofs.entries.Entries.put.Goals as goal

pub returns-in-Ok-clause-with : goal.returns-in-Ok-clause-with
returns-in-Ok-clause-with c =
    put_where c.put_at.result _ _
    (put_found c.args.item.now c.args.self.now c.in-Ok.at c.key.result.stamp c.key.result.identifier.now c.key.ensures.stamp c.key.ensures.identifier c.in-Ok.ensures)
    c.put_at.ensures.with

pub returns-in-Err-clause-with : goal.returns-in-Err-clause-with
returns-in-Err-clause-with c =
    put_where c.put_at-in-Err.result _ _
    (put_missing c.args.item.now c.args.self.now c.in-Err.at c.key.result.stamp c.key.result.identifier.now c.key.ensures.stamp c.key.ensures.identifier c.in-Err.ensures)
    c.put_at-in-Err.ensures.with
