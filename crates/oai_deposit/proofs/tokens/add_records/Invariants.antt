use Rattle.std.proofs.Common.{◌≡◌, ◌++◌, length, true}
use Rattle.std.specs.List.{flat_map}
use Rattle.oai_item.specs.Item.{are_rising}
use Rattle.oai_deposit.specs.Lines.{are_records_of}
use Rattle.oai_deposit.specs.Tokens.{record_tokens}
use Rattle.oai_deposit.proofs.tokens.add_records.Given as goal

abbrev pub invariant-loop-prefix : goal.invariant-loop-prefix
invariant-loop-prefix l =
    (l.initial.reader ≡ flat_map record_tokens l.records.items ++ l.reader) × (are_rising l.records.items ≡ true)
    × (are_records_of l.forms l.records.items ≡ true)

abbrev pub decreases-loop-prefix : goal.decreases-loop-prefix
decreases-loop-prefix l = length l.reader
