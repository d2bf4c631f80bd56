use Rattle.std.proofs.Common.{◌≡◌, ◌++◌, false, drop}
use Rattle.oai_xml.specs.Documents.{lines}
use Rattle.oai_xml.proofs.lines.normalized.Given as goal

abbrev pub invariant-loop-b : goal.invariant-loop-b
invariant-loop-b l = lines false l.bytes ≡ l.lines.items ++ lines l.behind_cr (drop l.b-index l.bytes)
