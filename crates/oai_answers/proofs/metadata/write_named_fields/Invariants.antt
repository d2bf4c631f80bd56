use Rattle.std.proofs.Common.{◌≡◌, ◌++◌, length}
use Rattle.std.specs.List.{before_first, flat_map}
use Rattle.oai_item.specs.Elements.{from_nameless, is_nameless}
use Rattle.oai_answers.specs.Documents.{field_element, qualifier_of}
use Rattle.oai_answers.proofs.metadata.write_named_fields.Given as goal

-- what was appended, and the elements of the fields with names that are to come; behind those stands what stands behind all
abbrev pub invariant-loop-field : goal.invariant-loop-field
invariant-loop-field l =
    (l.out.items ++ flat_map (field_element (qualifier_of l.qualifier)) (before_first is_nameless l.fields)
    ≡ l.fn.out.items ++ flat_map (field_element (qualifier_of l.qualifier)) (before_first is_nameless l.fn.fields))
    × (from_nameless l.fields ≡ from_nameless l.fn.fields)

abbrev pub decreases-loop-field : goal.decreases-loop-field
decreases-loop-field l = length l.fields
