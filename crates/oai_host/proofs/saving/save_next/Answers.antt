-- What was handed out is what the sink took.
use Rattle.std.proofs.Common.{None, Option, subst}
use Rattle.oai_snapshots.specs.Batches.{next_parts, parts_of_batch}
use Rattle.oai_snapshots.specs.Snapshots.{HandsOut}
use Rattle.oai_snapshots.specs.declared.batches.Batch.{Batch}
use Rattle.oai_host.proofs.SavedLemmas.{parts_none}
use Rattle.oai_host.proofs.saving.save_next.Goals as goal

pub returns-in_ok-save_batch-in-Some-clause-saved : goal.returns-in_ok-save_batch-in-Some-clause-saved
returns-in_ok-save_batch-in-Some-clause-saved g c = λ honest.
    let repo = c.args.repo.now in
    record {
      some = parts_of_batch repo.sets.now c.in-Some.batch;
      handed = subst (λ (b : Option Batch). HandsOut repo.sets.now (g.V.Versions.lists c.args.store.now) c.args.snapshot.now (next_parts repo.sets.now b) c.next.new.self) c.in-Some.is (c.in-Ok.ensures.handed honest repo.sets.now);
      taken = c.in_ok-save_batch-in-Some.ensures;
    }

pub returns-in-None-clause-saved : goal.returns-in-None-clause-saved
returns-in-None-clause-saved g c = λ honest.
    let repo = c.args.repo.now in
    record {
      some = next_parts repo.sets.now None;
      handed = subst (λ (b : Option Batch). HandsOut repo.sets.now (g.V.Versions.lists c.args.store.now) c.args.snapshot.now (next_parts repo.sets.now b) c.next.new.self) c.in-None.is (c.in-Ok.ensures.handed honest repo.sets.now);
      taken = parts_none g.S.Sink.has repo.name.now repo.clock c.args.sink.now;
    }
