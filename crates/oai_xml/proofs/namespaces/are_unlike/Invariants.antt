use Rattle.std.proofs.Common.{◌≡◌, drop}
use Rattle.oai_xml.specs.Namespaces.{are_unlike}
use Rattle.oai_xml.proofs.namespaces.are_unlike.Given as goal

abbrev pub invariant-loop-i : goal.invariant-loop-i
invariant-loop-i l = are_unlike l.scope l.names ≡ are_unlike l.scope (drop l.i l.names)
