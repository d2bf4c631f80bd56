use Rattle.std.proofs.Common.{[], refl, arith}
use Rattle.oai_blocks.proofs.LineLemmas.{begun}
use Rattle.oai_blocks.proofs.ShelfLemmas.{turns_none, updated, vacant_in}
use Rattle.oai_blocks.proofs.TimesLemmas.{times-nil}
use Rattle.oai_blocks.proofs.lines.BlockLines.begin.Goals as goal

pub invariant_of-self-2-clause-blocked : goal.invariant_of-self-2-clause-blocked
invariant_of-self-2-clause-blocked g c =
    let self = c.args.self.now in
    let v = c.insert_reserved.result in
    let numbers = c.new-numbers.result.items in
    let none = c.new-numbers.ensures.items in
    let set = updated self.lines c.reserve_line.new.lines c.insert_reserved.new.self v v _ c.reserve_line.ensures.slots refl c.insert_reserved.ensures.updates in
    let vacant = vacant_in self.lines c.reserve_line.new.lines v c.reserve_line.ensures.slots c.insert_reserved.ensures.was_vacant in
    rw c.reserve_line.ensures.items
    (begun self.blocks.slots self.lines.slots self.waiting.items v self.blocked self.blocks.slots c.insert_reserved.new.self.slots [] [] [] [] vacant (turns_none self.blocks.slots)
    (rw (← none) set) (λ b. omega (arith, times-nil b)) refl).blocked
