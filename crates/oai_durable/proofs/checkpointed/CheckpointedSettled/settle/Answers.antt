-- A commit, and a step behind it.
use Rattle.oai_durable.specs.Checkpointed.{commits}
use Rattle.oai_durable.proofs.BesideLemmas.{none_if}
use Rattle.oai_durable.proofs.checkpointed.CheckpointedSettled.settle.Goals as goal

pub returns : goal.returns
returns g c = rw (← c.self.view_is) (commits (record {
  synced = none_if _ _ c.is_some.ensures c.if-is_some.false;
  committed = c.settle.new.self;
  commits = c.in_ok-settle.ensures;
  steps = c.step.ensures;
}))
