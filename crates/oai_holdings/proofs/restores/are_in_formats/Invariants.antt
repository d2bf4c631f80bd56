use Rattle.std.proofs.Common.{◌≡◌, true, length}
use Rattle.std.specs.Prelude.{◌&&◌}
use Rattle.std.specs.List.{list_all, list_any}
use Rattle.oai_item.specs.Known.{has_format, has_known_fields}
use Rattle.oai_holdings.specs.Saved.{keeps_element}
use Rattle.oai_holdings.proofs.restores.are_in_formats.Given as goal

-- the answer to those that are to come is that to all, and an element among them is one of all
abbrev pub invariant-loop-made : goal.invariant-loop-made
invariant-loop-made l =
    ((list_all (has_format l.formats) l.records && list_all (has_known_fields l.formats) l.records)
    ≡ (list_all (has_format l.formats) l.initial.records && list_all (has_known_fields l.formats) l.initial.records))
    × (list_any keeps_element l.records ≡ true → list_any keeps_element l.initial.records ≡ true)

abbrev pub decreases-loop-made : goal.decreases-loop-made
decreases-loop-made l = length l.records
