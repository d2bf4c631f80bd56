-- A connection is opened for a label that is new.
use Rattle.std.proofs.Common.{◌≡◌, ◌+◌, None, Ok, refl, rules}
use Rattle.std.specs.BTreeMap.{get}
use Rattle.std.specs.Ordering.{nat_cmp}
use Rattle.oai_front.specs.Fronts.{IsOpening}
use Rattle.oai_cli.proofs.Apart.{opened_others}
use Rattle.oai_cli.proofs.UsedLemmas.{used_opening}
use Rattle.oai_cli.proofs.trace.labels.connection_of.Goals as goal

pub returns-in-Ok-insert-clause-used : goal.returns-in-Ok-insert-clause-used
returns-in-Ok-insert-clause-used g c = used_opening g.H.Handler.step c.args.front.now c.open.result c.open.new.self c.open.ensures

pub returns-in-Err-insert-clause-used : goal.returns-in-Err-insert-clause-used
returns-in-Err-insert-clause-used g c = used_opening g.H.Handler.step c.args.front.now c.open.result c.open.new.self c.open.ensures

pub returns-in-Err-insert-clause-refused : goal.returns-in-Err-insert-clause-refused
returns-in-Err-insert-clause-refused g c =
    let opened : IsOpening c.args.front.now (Ok c.in-Ok.conn) c.open.new.self = rw c.in-Ok.is at c.open.ensures in
    let last = c.args.front.now.last in
    let none : get nat_cmp c.args.labels.now c.args.label ≡ None = search rules in
    (refl, opened.0, rw none (opened_others (last + 1) (last + 1) c.args.front.now c.open.new.self opened.3))
