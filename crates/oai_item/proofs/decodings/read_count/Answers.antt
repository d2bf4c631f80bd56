use Rattle.std.proofs.Common.{arith}
use Rattle.oai_item.specs.SpellingParts.{IsCount}
use Rattle.oai_item.proofs.Numbers.{count_read, no_count}
use Rattle.oai_item.proofs.decodings.read_count.Goals as goal

pub returns-in_default : goal.returns-in_default
returns-in_default c = no_count IsCount c.args.bytes.now c.in_default.len_below

pub returns : goal.returns
returns c = count_read c.args.bytes.now c.from_be_bytes.result (λ i. omega (arith, c.type_inv.bytes i)) c.in-len4-up.len_at_least c.from_be_bytes.ensures
