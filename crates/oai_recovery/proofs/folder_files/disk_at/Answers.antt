-- It was settled, and nothing has happened since.
use Rattle.oai_recovery.proofs.FileLemmas.{fresh_seen}
use Rattle.oai_recovery.proofs.folder_files.disk_at.Goals as goal

pub returns-in-Ok : goal.returns-in-Ok
returns-in-Ok g c = rw c.database_of.ensures (fresh_seen g.S.Start c.in-Ok.files.db c.in-Ok.ensures.fresh.1)
