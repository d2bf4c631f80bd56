use Rattle.std.proofs.Common.{◌≡◌, ◌∙◌, None, refl, arith, ap, subst, sym}
use Rattle.std.specs.List.{insert}
use Rattle.std.proofs.lemmas.List.Edits.{get_or-insert_at}
use Rattle.oai_blocks.specs.Blocks.{items_in, names_at, names_in, numbers_at}
use Rattle.slab.specs.Slab.{get}
use Rattle.oai_blocks.proofs.LineLemmas.{in_use, line_is, line_length, number_in, number_now, put, unset}
use Rattle.oai_blocks.proofs.ShelfLemmas.{named_first, not_err, updated_by, vacant_in, was_err}
use Rattle.oai_blocks.proofs.lines.BlockLines.put_in.Goals as goal

pub invariant_of-self-then-is_err-2-clause-blocked : goal.invariant_of-self-then-is_err-2-clause-blocked
invariant_of-self-then-is_err-2-clause-blocked g c =
    let self = c.args.self.now in
    let same : c.reserve.new.self.slots ≡ self.blocks.slots = ap (λ s. s.slots) c.reserve.ensures.rest_kept in
    let set = was_err c.insert_number.result (sym c.is_err-2.ensures.value ∙ c.if-is_err-2.true) c.insert_number.ensures.err in
    rw same (unset self.blocks.slots self.lines.slots self.waiting.items c.args.v self.blocked self.blocks.slots c.insert_number.new.lines.slots set).blocked

pub invariant_of-self-2-clause-blocked : goal.invariant_of-self-2-clause-blocked
invariant_of-self-2-clause-blocked g c =
    let self = c.args.self.now in
    let k = c.in-Ok.number in
    let is : k ≡ c.vacant_key.result = c.in-Ok.ensures.number in
    let same : c.reserve.new.self.slots ≡ self.blocks.slots = ap (λ s. s.slots) c.reserve.ensures.rest_kept in
    let key : c.insert_reserved.result ≡ k = c.insert_reserved.ensures.key ∙ sym c.vacant_key.ensures.value ∙ sym is in
    let vacant = vacant_in self.blocks c.reserve.new.self k same (subst (λ x. get c.reserve.new.self x ≡ None) (sym is) c.vacant_key.ensures.vacant) in
    let set = updated_by self.blocks c.reserve.new.self c.insert_reserved.new.self k c.insert_reserved.result _ _ c.new.ensures same key c.insert_reserved.ensures.updates in
    let turns = named_first self.blocks.slots c.insert_reserved.new.self.slots k _ vacant refl refl set in
    let numbers = in_use self.blocks.slots (numbers_at self.lines.slots c.args.v) c.requires.stands in
    let line = not_err c.insert_number.result (sym c.is_err-2.ensures.value ∙ c.if-is_err-2.false) c.insert_number.ensures.set in
    let line_set = rw numbers.1 at line in
    (put self.blocks.slots self.lines.slots self.waiting.items c.args.v self.blocked c.insert_reserved.new.self.slots c.insert_number.new.lines.slots
    numbers.0 c.args.j numbers.1 k c.args.items.items _ _ (ap names_in vacant) (ap items_in set.this) turns line_set).blocked

pub returns-clause-line : goal.returns-clause-line
returns-clause-line g c =
    let self = c.args.self.now in
    let k = c.in-Ok.number in
    let is : k ≡ c.vacant_key.result = c.in-Ok.ensures.number in
    let same : c.reserve.new.self.slots ≡ self.blocks.slots = ap (λ s. s.slots) c.reserve.ensures.rest_kept in
    let key : c.insert_reserved.result ≡ k = c.insert_reserved.ensures.key ∙ sym c.vacant_key.ensures.value ∙ sym is in
    let vacant = vacant_in self.blocks c.reserve.new.self k same (subst (λ x. get c.reserve.new.self x ≡ None) (sym is) c.vacant_key.ensures.vacant) in
    let set = updated_by self.blocks c.reserve.new.self c.insert_reserved.new.self k c.insert_reserved.result _ _ c.new.ensures same key c.insert_reserved.ensures.updates in
    let turns = named_first self.blocks.slots c.insert_reserved.new.self.slots k _ vacant refl refl set in
    let numbers = in_use self.blocks.slots (numbers_at self.lines.slots c.args.v) c.requires.stands in
    let line = not_err c.insert_number.result (sym c.is_err-2.ensures.value ∙ c.if-is_err-2.false) c.insert_number.ensures.set in
    let line_set = rw numbers.1 at line in
    let held = put self.blocks.slots self.lines.slots self.waiting.items c.args.v self.blocked c.insert_reserved.new.self.slots c.insert_number.new.lines.slots
    numbers.0 c.args.j numbers.1 k c.args.items.items _ _ (ap names_in vacant) (ap items_in set.this) turns line_set in
    let line_was = line_is self.blocks.slots self.lines.slots c.args.v numbers.0 numbers.1 in
    record {
      lines = rw line_was held.lines_set;
      weight = turns.weight;
      steps = refl;
      notes = turns.notes;
    }

pub returns-clause-own : goal.returns-clause-own
returns-clause-own g c =
    let self = c.args.self.now in
    let k = c.in-Ok.number in
    let is : k ≡ c.vacant_key.result = c.in-Ok.ensures.number in
    let same : c.reserve.new.self.slots ≡ self.blocks.slots = ap (λ s. s.slots) c.reserve.ensures.rest_kept in
    let key : c.insert_reserved.result ≡ k = c.insert_reserved.ensures.key ∙ sym c.vacant_key.ensures.value ∙ sym is in
    let vacant = vacant_in self.blocks c.reserve.new.self k same (subst (λ x. get c.reserve.new.self x ≡ None) (sym is) c.vacant_key.ensures.vacant) in
    let set = updated_by self.blocks c.reserve.new.self c.insert_reserved.new.self k c.insert_reserved.result _ _ c.new.ensures same key c.insert_reserved.ensures.updates in
    let turns = named_first self.blocks.slots c.insert_reserved.new.self.slots k _ vacant refl refl set in
    let numbers = in_use self.blocks.slots (numbers_at self.lines.slots c.args.v) c.requires.stands in
    let line = not_err c.insert_number.result (sym c.is_err-2.ensures.value ∙ c.if-is_err-2.false) c.insert_number.ensures.set in
    let line_set = rw numbers.1 at line in
    let line_was = line_length self.blocks.slots self.lines.slots c.args.v numbers.0 numbers.1 in
    let within = c.requires.within in
    let new = c.insert_reserved.new.self.slots in
    let number : number_in c.insert_number.new.lines.slots c.args.v c.args.j ≡ k =
    number_now c.insert_number.new.lines.slots c.args.v c.args.j (insert numbers.0 c.args.j k) line_set.this
    ∙ get_or-insert_at numbers.0 c.args.j k 0 (omega (arith, within, line_was)) in
    ap (names_at new) number ∙ ap names_in set.this
