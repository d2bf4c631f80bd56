use Rattle.std.proofs.Common.{◌≡◌, List, length, ap, refl, arith}
use Rattle.oai_blocks.specs.Blocks.{items_at, room_at}
use Rattle.oai_blocks.proofs.LineLemmas.{kept_blocked, number_in, same_lines}
use Rattle.oai_blocks.proofs.ShelfLemmas.{altered_kept, altered_names, altered_room, altered_same, on_ok_after}
use Rattle.oai_blocks.proofs.lines.BlockLines.reserve.Goals as goal

pub invariant_of-self-clause-blocked : goal.invariant_of-self-clause-blocked
invariant_of-self-clause-blocked g c =
    let self = c.args.self.now in
    let n = c.number_of-number.result in
    kept_blocked self.blocks.slots c.reserve_items.new.blocks.slots self.lines.slots self.waiting.items self.blocked
    (altered_kept n self.blocks.slots c.reserve_items.new.blocks.slots c.reserve_items.ensures.alters c.number_of-number.ensures.stands)

pub returns-clause-keeps : goal.returns-clause-keeps
returns-clause-keeps g c =
    let self = c.args.self.now in
    let n = c.number_of-number.result in
    let old = self.blocks.slots in
    let new = c.reserve_items.new.blocks.slots in
    let alters = c.reserve_items.ensures.alters in
    record {
      lines = λ v. same_lines old new self.lines.slots (altered_same n old new alters) v;
      names = λ v j. altered_names n (items_at old n) old new alters (number_in self.lines.slots v j);
      room = λ v j. altered_room n (items_at old n) old new alters (number_in self.lines.slots v j);
      weight = λ weigh. omega (arith, (altered_kept n old new alters c.number_of-number.ensures.stands).weight weigh);
      steps = refl;
      notes = alters.notes;
    }

pub returns-clause-room : goal.returns-clause-room
returns-clause-room g c =
    let self = c.args.self.now in
    let n = c.number_of-number.result in
    let new = c.reserve_items.new.blocks.slots in
    let long = ap (λ (b : List g.row.T.Denot). length b) c.number_of-number.ensures.items in
    let room : room_at new n ≡ room_at new (number_in self.lines.slots c.args.v c.args.j) = ap (room_at new) c.number_of-number.ensures.number in
    on_ok_after c.reserve_items.result c.reserve_items.ensures.room (λ fits. omega (arith, fits, long, room))
