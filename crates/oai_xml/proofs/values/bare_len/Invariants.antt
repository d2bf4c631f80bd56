use Rattle.std.proofs.Common.{◌≡◌, ◌+◌, drop}
use Rattle.std.specs.List.{prefix_len}
use Rattle.oai_xml.specs.Answers.{is_bare_value_byte}
use Rattle.oai_xml.proofs.values.bare_len.Given as goal

abbrev pub invariant-loop-i : goal.invariant-loop-i
invariant-loop-i l = prefix_len is_bare_value_byte l.bytes ≡ l.i + prefix_len is_bare_value_byte (drop l.i l.bytes)
