use Rattle.std.proofs.Common.{◌≡◌, ◌+◌, not, drop}
use Rattle.std.specs.List.{prefix_len}
use Rattle.oai_names.specs.Names.{is_colon}
use Rattle.oai_xml.proofs.names.colon.Given as goal

abbrev pub invariant-loop-i : goal.invariant-loop-i
invariant-loop-i l = prefix_len (λ b. not (is_colon b)) l.name ≡ l.i + prefix_len (λ b. not (is_colon b)) (drop l.i l.name)
