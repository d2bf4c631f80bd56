use Rattle.std.proofs.Common.{◌≡◌, length}
use Rattle.oai_item.specs.Item.{have_no_fields}
use Rattle.oai_item.proofs.in_place.have_no_fields.Given as goal

abbrev pub invariant-loop-format : goal.invariant-loop-format
invariant-loop-format l = have_no_fields l.rest ≡ have_no_fields l.records

abbrev pub decreases-loop-format : goal.decreases-loop-format
decreases-loop-format l = length l.rest
