use Rattle.std.proofs.Common.{◌≡◌, length}
use Rattle.std.specs.List.{before_first}
use Rattle.oai_item.specs.Elements.{is_nameless}
use Rattle.oai_item.specs.Known.{are_listed_in}
use Rattle.oai_holdings.proofs.restores.are_listed_in.Given as goal

-- the answer to those that are to come is that to all
abbrev pub invariant-loop-field : goal.invariant-loop-field
invariant-loop-field l = are_listed_in l.format (before_first is_nameless l.fields) ≡ are_listed_in l.format (before_first is_nameless l.initial.fields)

abbrev pub decreases-loop-field : goal.decreases-loop-field
decreases-loop-field l = length l.fields
