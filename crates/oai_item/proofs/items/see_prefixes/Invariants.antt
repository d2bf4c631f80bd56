use Rattle.std.proofs.Common.{◌≡◌, true, take}
use Rattle.oai_item.specs.Item.{are_prefixed}
use Rattle.oai_item.proofs.items.see_prefixes.Given as goal

abbrev pub invariant-loop-prefix : goal.invariant-loop-prefix
invariant-loop-prefix l = are_prefixed (take l.prefix-index l.formats) ≡ true
