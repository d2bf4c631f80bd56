use Rattle.std.proofs.Common.{sym, arith}
use Rattle.oai_places.proofs.TestedLemmas.{kind_of_many, kind_of_none}
use Rattle.oai_paged.proofs.changes.kind_for.Goals as goal

pub returns-then-overflow-eq0 : goal.returns-then-overflow-eq0
returns-then-overflow-eq0 c = sym (kind_of_none c.args.overflow c.if-overflow-eq0.true)

pub returns-else-overflow-eq0 : goal.returns-else-overflow-eq0
returns-else-overflow-eq0 c = sym (kind_of_many c.args.overflow (omega (arith, c.if-overflow-eq0.false)))
