-- The count tells whether there are lines.
use Rattle.oai_host.specs.Bodies.{lines_in}
use Rattle.oai_host.proofs.RedoLemmas.{any_lines, none_lines}
use Rattle.oai_host.proofs.records.lines_to_replay.Goals as goal

pub returns-then-count-eq0 : goal.returns-then-count-eq0
returns-then-count-eq0 c = none_lines (lines_in c.args.lines.now) c.args.lines.now c.args.count c.requires c.if-count-eq0.true

pub returns-else-count-eq0 : goal.returns-else-count-eq0
returns-else-count-eq0 c = any_lines (lines_in c.args.lines.now) c.args.lines.now c.args.count c.requires c.if-count-eq0.false
