use Rattle.std.proofs.Common.{◌∙◌, sym}
use Rattle.oai_item.proofs.NewNames.{new_more}
use Rattle.oai_item.proofs.covering.are_new.Goals as goal

pub loop-set-preserved : goal.loop-set-preserved
loop-set-preserved c =
    new_more c.loop-set.names c.insert.new.self c.in-Some.set c.loop-set.rest c.next.new.self c.in_ok-insert.ensures.updates
    (sym c.in_ok-insert.ensures.added ∙ c.if-not-branch.false) c.in-Some.ensures.next
    ∙ c.loop-set.invariant
