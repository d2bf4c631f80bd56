use Rattle.std.proofs.Common.{◌≡◌, length}
use Rattle.std.specs.Cmp.Lexicographic.{pointwise}
use Rattle.oai_holdings.specs.Changes.{is_same_field}
use Rattle.oai_holdings.proofs.changes.sameness.are_same_fields.Given as goal

-- the answer to those that are to come is that to all
abbrev pub invariant-loop-field : goal.invariant-loop-field
invariant-loop-field l = pointwise is_same_field l.fields l.others ≡ pointwise is_same_field l.initial.fields l.initial.others

abbrev pub decreases-loop-field : goal.decreases-loop-field
decreases-loop-field l = length l.fields
