use Rattle.std.proofs.Common.{◌≡◌, take}
use Rattle.oai_names.specs.Escapes.{escaped}
use Rattle.oai_names.specs.declared.escapes.Place.TheVariants.{Attribute}
use Rattle.oai_names.proofs.escapes.attribute_run_len.Given as goal

-- the bytes so far are spelled as they are
abbrev pub invariant-loop-i : goal.invariant-loop-i
invariant-loop-i l = escaped Attribute (take l.i l.bytes) ≡ take l.i l.bytes
