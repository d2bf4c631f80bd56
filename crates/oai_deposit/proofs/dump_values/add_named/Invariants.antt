use Rattle.std.proofs.Common.{◌≡◌, List, ◌++◌, map, length}
use Rattle.std.specs.List.{before_first}
use Rattle.serde_json.specs.View.{view}
use Rattle.oai_item.specs.Elements.{is_nameless}
use Rattle.oai_item.specs.declared.fields.Field.{Field}
use Rattle.oai_deposit.specs.Shapes.{written_field}
use Rattle.oai_deposit.proofs.dump_values.add_named.Given as goal

abbrev pub invariant-loop-field : goal.invariant-loop-field
invariant-loop-field l =
    (done : List Field) × (before_first is_nameless l.fn.fields ≡ done ++ before_first is_nameless l.left)
    × (map view l.values.items ≡ map view l.initial.values.items ++ map written_field done)

abbrev pub decreases-loop-field : goal.decreases-loop-field
decreases-loop-field l = length l.left
