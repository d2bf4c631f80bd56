use Rattle.oai_host.proofs.HostSnapshotLemmas.{all_taken, repos_kept, snapshots_changed}
use Rattle.oai_host.proofs.laws.host_snapshots_law.Goals as goal

pub returns : goal.returns
returns c = record { taken = all_taken; kept = snapshots_changed; apart = repos_kept }
