-- A step of a checkpoint, and what follows it.
use Rattle.std.proofs.Common.{◌∙◌, length, refl, sym}
use Rattle.oai_durable.proofs.steps.write.Goals as goal

pub returns-in-Err-clause-held : goal.returns-in-Err-clause-held
returns-in-Err-clause-held g c = λ begun entries durable held.
    c.give_up.ensures.held begun entries durable (c.write_checkpoint.ensures.held begun entries durable held)

pub returns-in-Refused-clause-held : goal.returns-in-Refused-clause-held
returns-in-Refused-clause-held g c = λ begun entries durable held.
    c.give_up-in-Refused.ensures.held begun entries durable (c.write_checkpoint.ensures.held begun entries durable held)

pub returns-in-Done-clause-leads : goal.returns-in-Done-clause-leads
returns-in-Done-clause-leads g c = rw c.into_journal-new.ensures (λ right begun entries all.
    (c.in-Ok.ensures.writes (sym c.write_checkpoint.ensures.honesty ∙ right.honest) right.clean begun entries (length entries) all.begins all.held all.written).over c.if-more.false refl)

pub returns-in-Unsynced-clause-leads : goal.returns-in-Unsynced-clause-leads
returns-in-Unsynced-clause-leads g c = rw c.into_journal-new.ensures (λ right begun entries all.
    (c.in-Ok.ensures.writes (sym c.write_checkpoint.ensures.honesty ∙ right.honest) right.clean begun entries (length entries) all.begins all.held all.written).over c.if-more.false refl)
