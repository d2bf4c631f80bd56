use Rattle.std.proofs.Common.{◌+◌, refl, arith, get_or}
use Rattle.oai_blocks.proofs.ShelfLemmas.{turns_more}
use Rattle.oai_blocks.proofs.TimesLemmas.{times-more, times-nil, times-same, times-take, times-within}
use Rattle.oai_blocks.proofs.shelves.name_all.Goals as goal

pub name_again-requires-clause-stands : goal.name_again-requires-clause-stands
name_again-requires-clause-stands g c =
    let numbers = c.args.numbers.now in
    let at = c.named.at in
    let b = get_or numbers at 0 in
    let some = c.requires.stand b (times-within numbers at 0 c.named-test.true) in
    omega (arith, some, c.named.invariant.renames.counts b, times-nil b)

pub name_again-requires-clause-few : goal.name_again-requires-clause-few
name_again-requires-clause-few g c =
    let numbers = c.args.numbers.now in
    let at = c.named.at in
    let b = get_or numbers at 0 in
    omega (arith, c.requires.few b, c.requires.once b, c.named.invariant.renames.counts b, times-nil b, times-more b numbers at 0 c.named-test.true, times-same b, times-take b numbers (at + 1))

pub named-preserved : goal.named-preserved
named-preserved g c =
    turns_more c.args.numbers.now c.named.at _ c.args.blocks.now.slots c.named.blocks.slots c.name_again.new.blocks.slots c.named-test.true refl c.named.invariant c.name_again.ensures
