-- The root that is noted is that of the element.
use Rattle.std.proofs.Common.{◌∙◌}
use Rattle.oai_item.proofs.GivenLemmas.{noted_root}
use Rattle.oai_holdings.proofs.changes.deposits.is_given_in.Goals as goal

pub returns-in-Some : goal.returns-in-Some
returns-in-Some c =
    let noted = rw c.in-Some.is at c.requires in
    rw c.in-Some.is (c.is_root_of.ensures ∙ noted_root c.args.format.now c.args.given.now.fields.now c.in-Some.root.now noted)
