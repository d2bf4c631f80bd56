use Rattle.std.proofs.Common.{◌≡◌, take}
use Rattle.std.specs.Str.Parse.{digits_value}
use Rattle.oai_front.proofs.fields.number.Given as goal

-- the number that the digits so far write
abbrev pub invariant-loop-digit : goal.invariant-loop-digit
invariant-loop-digit l = l.number ≡ digits_value 10 (take l.digit-index l.digits)
