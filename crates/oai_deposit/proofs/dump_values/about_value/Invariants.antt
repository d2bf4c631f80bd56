use Rattle.std.proofs.Common.{◌≡◌, List, ◌++◌, map, length}
use Rattle.serde_json.specs.Data.{string}
use Rattle.serde_json.specs.View.{view}
use Rattle.oai_item.specs.declared.fields.Field.{Field}
use Rattle.oai_deposit.proofs.dump_values.about_value.Given as goal

abbrev pub invariant-loop-field : goal.invariant-loop-field
invariant-loop-field l = (done : List Field) × (l.fn.about ≡ done ++ l.left) × (map view l.texts.items ≡ map string (map (λ field. field.text) done))

abbrev pub decreases-loop-field : goal.decreases-loop-field
decreases-loop-field l = length l.left
