use Rattle.oai_durable.proofs.CheckpointLemmas.{stages_history}
use Rattle.oai_host.specs.Emptied.{emptied_redone, emptied_restored}
use Rattle.oai_recovery.specs.Archives.{archive}
use Rattle.oai_daemon.proofs.laws.archive_law.Goals as goal

pub returns : goal.returns
returns c = λ begun stages left begins are.
    stages_history archive begun stages left (record { redone = emptied_redone; restored = emptied_restored }) begins are
