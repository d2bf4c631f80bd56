-- The one byte that is read is the one that stands there.
use Rattle.std.proofs.Common.{rules}
use Rattle.tests_devices.proofs.ByteFileLemmas.{byte_read}
use Rattle.tests_devices.proofs.byte_file.ByteFilePageFile.read_some.Goals as goal

pub returns-in-Some-clause-value : goal.returns-in-Some-clause-value
returns-in-Some-clause-value c honest = byte_read _ c.args.offset c.in-Some.byte.now c.args.into.now (search rules)
