use Rattle.std.proofs.Common.{◌≡◌, ◌++◌, length}
use Rattle.std.specs.Prelude.{map}
use Rattle.oai_item.specs.Item.{Metadata}
use Rattle.oai_places.proofs.entry_bytes.prefixes_of.Given as goal

-- those that were copied, and those that are to come
abbrev pub invariant-loop-format : goal.invariant-loop-format
invariant-loop-format l = l.prefixes.items ++ map (λ (format : Metadata). format.0) l.records ≡ map (λ (format : Metadata). format.0) l.item.formats

abbrev pub decreases-loop-format : goal.decreases-loop-format
decreases-loop-format l = length l.records
