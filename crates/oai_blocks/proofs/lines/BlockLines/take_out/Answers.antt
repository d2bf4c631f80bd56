use Rattle.std.proofs.Common.{◌≡◌, ◌∙◌, ◌<◌, [], ◌∷◌, get_or, refl, ap, subst, sym}
use Rattle.oai_blocks.specs.Blocks.{items_at, items_out, names_at}
use Rattle.oai_blocks.specs.Naming.{Turns}
use Rattle.oai_blocks.proofs.LineLemmas.{has_block, line_is, taken, taken_names}
use Rattle.oai_blocks.proofs.lines.BlockLines.take_out.Goals as goal

pub drop_name-requires : goal.drop_name-requires
drop_name-requires g c =
    let self = c.args.self.now in
    let n = c.remove_number-number.result in
    let numbers = has_block self.blocks.slots self.lines.slots self.waiting.items c.args.v c.args.j self.blocked c.requires in
    subst (λ x. 0 < names_at self.blocks.slots x) (c.remove_number-number.ensures.number 0) numbers.4

pub invariant_of-self-clause-blocked : goal.invariant_of-self-clause-blocked
invariant_of-self-clause-blocked g c =
    let self = c.args.self.now in
    let numbers = has_block self.blocks.slots self.lines.slots self.waiting.items c.args.v c.args.j self.blocked c.requires in
    let n : c.remove_number-number.result ≡ get_or numbers.0 c.args.j 0 = sym (c.remove_number-number.ensures.number 0) ∙ numbers.3 in
    let turns = subst (λ x. Turns (x ∷ []) [] [] (items_out c.drop_name.result) self.blocks.slots c.drop_name.new.blocks.slots) n c.drop_name.ensures.turns in
    let line_set = rw numbers.1 at c.remove_number-number.ensures.set in
    (taken self.blocks.slots self.lines.slots self.waiting.items c.args.v self.blocked c.drop_name.new.blocks.slots c.remove_number-number.new.lines.slots
    numbers.0 c.args.j numbers.1 numbers.2 _ _ turns line_set).blocked

pub returns-clause-line : goal.returns-clause-line
returns-clause-line g c =
    let self = c.args.self.now in
    let numbers = has_block self.blocks.slots self.lines.slots self.waiting.items c.args.v c.args.j self.blocked c.requires in
    let n : c.remove_number-number.result ≡ get_or numbers.0 c.args.j 0 = sym (c.remove_number-number.ensures.number 0) ∙ numbers.3 in
    let turns = subst (λ x. Turns (x ∷ []) [] [] (items_out c.drop_name.result) self.blocks.slots c.drop_name.new.blocks.slots) n c.drop_name.ensures.turns in
    let line_set = rw numbers.1 at c.remove_number-number.ensures.set in
    let held = taken self.blocks.slots self.lines.slots self.waiting.items c.args.v self.blocked c.drop_name.new.blocks.slots c.remove_number-number.new.lines.slots
    numbers.0 c.args.j numbers.1 numbers.2 _ _ turns line_set in
    let line_was = line_is self.blocks.slots self.lines.slots c.args.v numbers.0 numbers.1 in
    record {
      lines = rw line_was held.lines_set;
      weight = turns.weight;
      steps = refl;
      notes = turns.notes;
    }

pub returns-clause-out : goal.returns-clause-out
returns-clause-out g c =
    let self = c.args.self.now in
    let numbers = has_block self.blocks.slots self.lines.slots self.waiting.items c.args.v c.args.j self.blocked c.requires in
    let same = ap (items_at self.blocks.slots) (sym (c.remove_number-number.ensures.number 0) ∙ numbers.3) ∙ numbers.5 in
    rw (← same) c.drop_name.ensures.out

pub returns-clause-before : goal.returns-clause-before
returns-clause-before g c k less =
    let self = c.args.self.now in
    let numbers = has_block self.blocks.slots self.lines.slots self.waiting.items c.args.v c.args.j self.blocked c.requires in
    let n : c.remove_number-number.result ≡ get_or numbers.0 c.args.j 0 = sym (c.remove_number-number.ensures.number 0) ∙ numbers.3 in
    let turns = subst (λ x. Turns (x ∷ []) [] [] (items_out c.drop_name.result) self.blocks.slots c.drop_name.new.blocks.slots) n c.drop_name.ensures.turns in
    let line_set = rw numbers.1 at c.remove_number-number.ensures.set in
    taken_names self.blocks.slots c.drop_name.new.blocks.slots self.lines.slots c.remove_number-number.new.lines.slots self.waiting.items c.args.v self.blocked numbers.0 numbers.1 c.args.j numbers.2
    turns.renames line_set k less
