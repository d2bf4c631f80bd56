-- What is written is read.
use Rattle.oai_bytes.proofs.NumeralLemmas.{moment_written, number_written}
use Rattle.oai_cli.proofs.WrittenLines.{call_written, event_written, output_written}
use Rattle.oai_cli.proofs.laws.line_law.Goals as goal

pub returns : goal.returns
returns c = record { moments = moment_written; numbers = number_written; calls = call_written; events = event_written; outputs = output_written }
