use Rattle.std.proofs.Common.{◌≡◌, length}
use Rattle.std.specs.List.{list_all}
use Rattle.oai_item.specs.Item.{Metadata, has_record}
use Rattle.oai_item.proofs.items.Item.has_each_format.Given as goal

-- the answer to those that are to come is that to all
abbrev pub invariant-loop-format : goal.invariant-loop-format
invariant-loop-format l =
    list_all (λ (format : Metadata). has_record format.0 l.self.formats) l.formats ≡ list_all (λ (format : Metadata). has_record format.0 l.self.formats) l.other.formats

abbrev pub decreases-loop-format : goal.decreases-loop-format
decreases-loop-format l = length l.formats
