use Rattle.std.proofs.Common.{◌≡◌, ◌+◌, false, drop}
use Rattle.oai_xml.specs.Documents.{origin}
use Rattle.oai_xml.proofs.lines.origin.Given as goal

abbrev pub invariant-loop-i : goal.invariant-loop-i
invariant-loop-i l = origin false l.bytes l.count ≡ l.i + origin l.behind_cr (drop l.i l.bytes) l.left
