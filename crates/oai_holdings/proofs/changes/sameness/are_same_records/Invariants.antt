use Rattle.std.proofs.Common.{◌≡◌, length}
use Rattle.std.specs.Cmp.Lexicographic.{pointwise}
use Rattle.oai_holdings.specs.Changes.{is_same_record}
use Rattle.oai_holdings.proofs.changes.sameness.are_same_records.Given as goal

-- the answer to those that are to come is that to all
abbrev pub invariant-loop-record : goal.invariant-loop-record
invariant-loop-record l = pointwise is_same_record l.records l.others ≡ pointwise is_same_record l.initial.records l.initial.others

abbrev pub decreases-loop-record : goal.decreases-loop-record
decreases-loop-record l = length l.records
