-- What was read is in the file of the one or the other.
use Rattle.oai_recovery.proofs.served_disks.ServedDiskDisk.read_at.Goals as goal

pub returns-in-Found-clause-read : goal.returns-in-Found-clause-read
returns-in-Found-clause-read g c = rw c.in-Found.is c.read_at.ensures.read

pub returns-in-Begun-clause-read : goal.returns-in-Begun-clause-read
returns-in-Begun-clause-read g c = rw c.in-Begun.is c.read_at-in-Begun.ensures.read
