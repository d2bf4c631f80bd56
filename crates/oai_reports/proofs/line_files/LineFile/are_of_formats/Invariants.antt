use Rattle.std.proofs.Common.{length}
use Rattle.oai_reports.proofs.line_files.LineFile.are_of_formats.Given as goal

abbrev pub decreases-loop-record : goal.decreases-loop-record
decreases-loop-record l = length l.left
