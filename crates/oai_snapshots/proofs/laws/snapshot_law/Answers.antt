use Rattle.oai_snapshots.proofs.PassingLemmas.{apart_left, holds_kept}
use Rattle.oai_snapshots.proofs.SnapshotLemmas.{batch_comes, batch_goes, snapshot_kept, snapshot_restored, snapshot_taken, stored_whole}
use Rattle.oai_snapshots.proofs.laws.snapshot_law.Goals as goal

pub returns-clause-whole : goal.returns-clause-whole
returns-clause-whole c = stored_whole

pub returns-clause-taken : goal.returns-clause-taken
returns-clause-taken c = snapshot_taken

pub returns-clause-restored : goal.returns-clause-restored
returns-clause-restored c = snapshot_restored

pub returns-clause-kept : goal.returns-clause-kept
returns-clause-kept c = snapshot_kept

pub returns-clause-goes : goal.returns-clause-goes
returns-clause-goes c = batch_goes

pub returns-clause-comes : goal.returns-clause-comes
returns-clause-comes c = batch_comes

pub returns-clause-held : goal.returns-clause-held
returns-clause-held c = holds_kept

pub returns-clause-apart : goal.returns-clause-apart
returns-clause-apart c = apart_left
