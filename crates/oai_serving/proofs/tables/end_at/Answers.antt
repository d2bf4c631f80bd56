-- One that is not over stays.
use Rattle.oai_serving.proofs.PassLemmas.{passes_none}
use Rattle.oai_serving.proofs.TableLemmas.{ended_none}
use Rattle.oai_serving.proofs.tables.end_at.Goals as goal

pub returns-else-is_over_at : goal.returns-else-is_over_at
returns-else-is_over_at g c = ended_none g.S.Stream.contents g.S.Stream.remaining _ _ c.args.links.now (passes_none _)
