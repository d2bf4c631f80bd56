use Rattle.std.proofs.Common.{◌≡◌, ◌++◌, drop}
use Rattle.oai_item.specs.Selection.{passes}
use Rattle.oai_catalogue.proofs.Parts.{to_come}
use Rattle.oai_catalogue.proofs.items.part.Given as goal

-- what was taken, and what is still to come
abbrev pub invariant-loop-item : goal.invariant-loop-item
invariant-loop-item l = l.part.items ++ to_come (passes l.filter) l.before l.left (drop l.item-index l.items) ≡ to_come (passes l.filter) l.skip l.most l.items
