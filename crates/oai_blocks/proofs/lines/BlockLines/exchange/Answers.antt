use Rattle.std.proofs.Common.{◌≡◌, ◌∙◌, List, [], Option, length, ap, drop, take, refl, arith}
use Rattle.oai_blocks.specs.Blocks.{items_at, lines_on, room_at}
use Rattle.std.specs.Prelude.{unwrap_or}
use Rattle.oai_blocks.specs.Calls.{listed}
use Rattle.oai_blocks.proofs.ListedLemmas.{listed_spliced}
use Rattle.oai_blocks.proofs.LineLemmas.{exchanged_holds, exchanged_weight, number_in}
use Rattle.oai_blocks.proofs.ShelfLemmas.{altered_names, altered_room}
use Rattle.oai_blocks.proofs.lines.BlockLines.exchange.Goals as goal

pub exchange_items-requires-clause-within : goal.exchange_items-requires-clause-within
exchange_items-requires-clause-within g c =
    let is : length (items_at c.args.self.now.blocks.slots c.number_of-number.result) ≡ length _ = ap (λ (b : List g.row.T.Denot). length b) c.number_of-number.ensures.items in
    omega (arith, is, c.requires.within)

pub exchange_items-requires-clause-room : goal.exchange_items-requires-clause-room
exchange_items-requires-clause-room g c =
    let self = c.args.self.now in
    let is : length (items_at self.blocks.slots c.number_of-number.result) ≡ length _ = ap (λ (b : List g.row.T.Denot). length b) c.number_of-number.ensures.items in
    let room : room_at self.blocks.slots c.number_of-number.result ≡ room_at self.blocks.slots (number_in self.lines.slots c.args.v c.args.j) =
    ap (room_at self.blocks.slots) c.number_of-number.ensures.number in
    omega (arith, is, room, c.requires.room)

pub invariant_of-self-clause-blocked : goal.invariant_of-self-clause-blocked
invariant_of-self-clause-blocked g c =
    let self = c.args.self.now in
    (exchanged_holds self.blocks.slots c.exchange_items.new.blocks.slots self.lines.slots self.waiting.items c.args.v self.blocked c.args.j c.args.i c.args.len c.number_of-number.result
    c.args.others.now.items c.exchange_items.new.others.items _ c.number_of-number.ensures.number c.number_of-number.ensures.items c.exchange_items.ensures.alters
    c.exchange_items.ensures.gone c.requires.block c.requires.own).blocked

pub returns-clause-line : goal.returns-clause-line
returns-clause-line g c =
    let self = c.args.self.now in
    record {
      lines = (exchanged_holds self.blocks.slots c.exchange_items.new.blocks.slots self.lines.slots self.waiting.items c.args.v self.blocked c.args.j c.args.i c.args.len c.number_of-number.result
          c.args.others.now.items c.exchange_items.new.others.items _ c.number_of-number.ensures.number c.number_of-number.ensures.items c.exchange_items.ensures.alters
          c.exchange_items.ensures.gone c.requires.block c.requires.own).lines_set;
      weight = exchanged_weight self.blocks.slots c.exchange_items.new.blocks.slots self.lines.slots self.waiting.items c.args.v self.blocked c.args.j c.args.i c.args.len c.number_of-number.result
          c.args.others.now.items c.exchange_items.new.others.items _ c.number_of-number.ensures.number c.number_of-number.ensures.items c.exchange_items.ensures.alters
          c.exchange_items.ensures.gone c.requires.block c.requires.own;
      steps = refl;
      notes = c.exchange_items.ensures.alters.notes;
    }

pub returns-clause-list : goal.returns-clause-list
returns-clause-list g c =
    let self = c.args.self.now in
    let held = exchanged_holds self.blocks.slots c.exchange_items.new.blocks.slots self.lines.slots self.waiting.items c.args.v self.blocked c.args.j c.args.i c.args.len c.number_of-number.result
    c.args.others.now.items c.exchange_items.new.others.items _ c.number_of-number.ensures.number c.number_of-number.ensures.items c.exchange_items.ensures.alters
    c.exchange_items.ensures.gone c.requires.block c.requires.own in
    ap (λ (line : Option (List (List g.row.T.Denot))). listed (unwrap_or line [])) held.lines_set.this
    ∙ listed_spliced (unwrap_or (lines_on self.blocks.slots self.lines.slots c.args.v) []) c.args.j c.args.i c.args.len c.args.others.now.items c.requires.block c.requires.within

pub returns-clause-gone : goal.returns-clause-gone
returns-clause-gone g c =
    c.exchange_items.ensures.gone ∙ ap (λ (b : List g.row.T.Denot). take c.args.len (drop c.args.i b)) c.number_of-number.ensures.items

pub returns-clause-shared : goal.returns-clause-shared
returns-clause-shared g c =
    let self = c.args.self.now in
    record {
      names = λ w k. altered_names c.number_of-number.result _ self.blocks.slots c.exchange_items.new.blocks.slots c.exchange_items.ensures.alters (number_in self.lines.slots w k);
      room = λ w k. altered_room c.number_of-number.result _ self.blocks.slots c.exchange_items.new.blocks.slots c.exchange_items.ensures.alters (number_in self.lines.slots w k);
    }
