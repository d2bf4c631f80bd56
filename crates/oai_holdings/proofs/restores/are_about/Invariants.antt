use Rattle.std.proofs.Common.{◌≡◌, true, length}
use Rattle.std.specs.Prelude.{◌==◌, not}
use Rattle.std.specs.List.{list_all}
use Rattle.oai_item.specs.Elements.{is_about}
use Rattle.oai_holdings.proofs.restores.are_about.Given as goal

-- the answer to those that are to come is that to all, and where some are to come, there are some
abbrev pub invariant-loop-field : goal.invariant-loop-field
invariant-loop-field l =
    (list_all is_about l.fields ≡ list_all is_about l.initial.fields)
    × (not (length l.fields == 0) ≡ true → not (length l.initial.fields == 0) ≡ true)

abbrev pub decreases-loop-field : goal.decreases-loop-field
decreases-loop-field l = length l.fields
