-- The numbers rise, so the last one is the highest.
use Rattle.std.proofs.Common.{sym}
use Rattle.oai_lists.proofs.Ends.{last_above}
use Rattle.oai_lists.proofs.lists.is_above_all.Goals as goal

pub returns-in-Some : goal.returns-in-Some
returns-in-Some c = sym (last_above c.args.lists.now c.args.number c.in-Some.last.now c.requires (sym c.in-Some.ensures.value))
