-- Where a step of a checkpoint leads.
use Rattle.std.proofs.Common.{◌∙◌, inl, inr, refl, ap}
use Rattle.oai_durable.specs.Checkpointed.{keeps_journal, switches}
use Rattle.oai_durable.proofs.BesideLemmas.{parts_are}
use Rattle.oai_durable.proofs.checkpointed.Checkpointed.step.Goals as goal

pub returns-in-Stays : goal.returns-in-Stays
returns-in-Stays g c =
    let synced = ap (λ s. s.unsynced) c.self.view_is ∙ c.requires in
    let leads = rw c.take-writing.ensures.value at c.in-Stays.ensures.leads in
    rw (← c.self.view_is) (record {
      read = c.make_step.new.journaled;
      held = c.make_step.ensures.held;
      honesty = c.make_step.ensures.honesty;
      ends = keeps_journal (record { ok = refl; parts = refl; unsynced = synced; written = leads });
    })

pub returns-in-Replaced : goal.returns-in-Replaced
returns-in-Replaced g c =
    let synced = ap (λ s. s.unsynced) c.self.view_is ∙ c.requires in
    let may = rw c.take-writing.ensures.value at c.in-Replaced.ensures.leads in
    let parts = parts_are c.replace.new.self c.make_step.new.journaled.handler _ c.replace.ensures.handler c.replace.ensures.journal in
    rw (← c.self.view_is) (record {
      read = c.make_step.new.journaled;
      held = c.make_step.ensures.held;
      honesty = c.make_step.ensures.honesty;
      ends = switches (record {
        new = c.in-Replaced.new;
        may = may;
        is = inl (record { ok = refl; parts = parts; writing = c.take-writing.ensures.after; unsynced = synced });
      });
    })

pub returns-in-InDoubt : goal.returns-in-InDoubt
returns-in-InDoubt g c =
    let may = rw c.take-writing.ensures.value at c.in-InDoubt.ensures.leads in
    rw (← c.self.view_is) (record {
      read = c.make_step.new.journaled;
      held = c.make_step.ensures.held;
      honesty = c.make_step.ensures.honesty;
      ends = switches (record {
        new = c.in-InDoubt.new;
        may = may;
        is = inr (record { fault = _; err = refl; parts = refl; writing = c.take-writing.ensures.after; unsynced = refl });
      });
    })
