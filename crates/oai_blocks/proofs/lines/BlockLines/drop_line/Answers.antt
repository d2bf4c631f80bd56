use Rattle.std.proofs.Common.{refl, arith}
use Rattle.oai_blocks.proofs.LineLemmas.{line_length}
use Rattle.oai_blocks.proofs.ShelfLemmas.{updated}
use Rattle.oai_blocks.proofs.WaitingLemmas.{gone_blocked, gone_lines, steps-push}
use Rattle.oai_blocks.proofs.lines.BlockLines.drop_line.Goals as goal

pub invariant_of-self-clause-blocked : goal.invariant_of-self-clause-blocked
invariant_of-self-clause-blocked g c =
    let self = c.args.self.now in
    let v = c.args.v in
    let set = updated self.lines self.lines c.remove-line.new.self v v _ refl refl c.remove-line.ensures.updates in
    rw c.push_reserved.ensures.items
    (gone_blocked self.blocks.slots self.lines.slots c.remove-line.new.self.slots self.waiting.items v c.remove-line.result self.blocked c.remove-line.ensures.value set)

pub returns-clause-line : goal.returns-clause-line
returns-clause-line g c =
    let self = c.args.self.now in
    let v = c.args.v in
    gone_lines self.blocks.slots self.lines.slots c.remove-line.new.self.slots v (updated self.lines self.lines c.remove-line.new.self v v _ refl refl c.remove-line.ensures.updates)

pub returns-clause-steps : goal.returns-clause-steps
returns-clause-steps g c =
    let self = c.args.self.now in
    let length_is = line_length self.blocks.slots self.lines.slots c.args.v c.remove-line.result c.remove-line.ensures.value in
    rw c.push_reserved.ensures.items (omega (arith, steps-push self.waiting.items c.remove-line.result, length_is))
