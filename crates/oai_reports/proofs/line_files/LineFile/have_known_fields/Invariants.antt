use Rattle.std.proofs.Common.{length}
use Rattle.oai_reports.proofs.line_files.LineFile.have_known_fields.Given as goal

abbrev pub decreases-loop-record : goal.decreases-loop-record
decreases-loop-record l = length l.left
