-- A part is added behind those before it.
use Rattle.oai_replay.specs.Parts.{as_part}
use Rattle.oai_durable.proofs.CheckpointLemmas.{saved_more}
use Rattle.oai_durable.proofs.checkpoints.JournalSink.take.Goals as goal

pub returns : goal.returns
returns g c = λ parts saved.
    saved_more g.J.Journal c.commit_group.new.journal c.add_part.new.journal parts (as_part c.args.part.now) c.in_ok-add_part.ensures (c.in_ok-commit_group.ensures parts saved)
