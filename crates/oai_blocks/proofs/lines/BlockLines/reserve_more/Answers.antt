use Rattle.std.proofs.Common.{refl, arith}
use Rattle.oai_blocks.specs.Blocks.{items_at}
use Rattle.oai_blocks.proofs.LineLemmas.{number_in, same_lines}
use Rattle.oai_blocks.proofs.ShelfLemmas.{altered_kept, altered_names, altered_room, altered_same}
use Rattle.oai_blocks.proofs.lines.BlockLines.reserve_more.Goals as goal

pub returns-clause-keeps : goal.returns-clause-keeps
returns-clause-keeps g c =
    let self = c.args.self.now in
    let n = c.number_of-number.result in
    let old = self.blocks.slots in
    let new = c.reserve_more.new.blocks.slots in
    let alters = c.reserve_more.ensures.alters in
    record {
      lines = λ v. same_lines old new self.lines.slots (altered_same n old new alters) v;
      names = λ v j. altered_names n (items_at old n) old new alters (number_in self.lines.slots v j);
      room = λ v j. altered_room n (items_at old n) old new alters (number_in self.lines.slots v j);
      weight = λ weigh. omega (arith, (altered_kept n old new alters c.number_of-number.ensures.stands).weight weigh);
      steps = refl;
      notes = alters.notes;
    }
