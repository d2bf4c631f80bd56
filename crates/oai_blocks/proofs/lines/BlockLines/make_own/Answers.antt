use Rattle.std.proofs.Common.{◌≡◌, ◌∙◌, ◌<◌, [], ◌∷◌, None, get_or, length, refl, arith, ap, subst, sym}
use Rattle.oai_blocks.specs.Blocks.{Shelf, items_in, items_out, names_at, names_in}
use Rattle.slab.specs.Slab.{get}
use Rattle.oai_blocks.specs.Naming.{IsNamedAnew, Turns}
use Rattle.oai_blocks.proofs.LineLemmas.{has_block, line_length, own_holds, own_weight, owned_names}
use Rattle.oai_blocks.proofs.ShelfLemmas.{named_first, owned_turns, still_free, updated_by}
use Rattle.oai_blocks.proofs.lines.BlockLines.make_own.Goals as goal

pub drop_name-requires : goal.drop_name-requires
drop_name-requires g c =
    let self = c.args.self.now in
    let same : c.reserve.new.self.slots ≡ self.blocks.slots = ap (λ s. s.slots) c.reserve.ensures.rest_kept in
    let before : names_at c.reserve.new.self.slots c.number_of-shared.result ≡ names_at self.blocks.slots c.number_of-shared.result =
    ap (λ (shelf : Shelf g.row.T.Denot g.row.S.Denot). names_at shelf c.number_of-shared.result) same in
    omega (arith, before, c.number_of-shared.ensures.stands)

pub invariant_of-self-2-clause-blocked : goal.invariant_of-self-2-clause-blocked
invariant_of-self-2-clause-blocked g c =
    let self = c.args.self.now in
    let n = c.number_of-shared.result in
    let own = c.in-Ok.own in
    let is : own ≡ c.vacant_key.result = c.in-Ok.ensures.number in
    let same : c.reserve.new.self.slots ≡ self.blocks.slots = ap (λ s. s.slots) c.reserve.ensures.rest_kept in
    let mid = c.drop_name.new.blocks.slots in
    let new = c.insert_reserved.new.self.slots in
    let shared : 1 < names_at self.blocks.slots n = subst (λ x. 1 < names_at self.blocks.slots x) (sym c.number_of-shared.ensures.number) c.requires.shared in
    let shared_then : 1 < names_at c.reserve.new.self.slots n = subst (λ (shelf : Shelf g.row.T.Denot g.row.S.Denot). 1 < names_at shelf n) (sym same) shared in
    let first = subst (λ (shelf : Shelf g.row.T.Denot g.row.S.Denot). Turns (n ∷ []) [] [] (items_out c.drop_name.result) shelf mid) same c.drop_name.ensures.turns in
    let key : c.insert_reserved.result ≡ own = c.insert_reserved.ensures.key ∙ c.drop_name.ensures.vacant shared_then ∙ sym c.vacant_key.ensures.value ∙ sym is in
    let free : get c.drop_name.new.blocks own ≡ None = subst (λ x. get c.drop_name.new.blocks x ≡ None) key c.insert_reserved.ensures.was_vacant in
    let set_block = updated_by c.drop_name.new.blocks c.drop_name.new.blocks c.insert_reserved.new.self own c.insert_reserved.result _ _ c.new.ensures refl key c.insert_reserved.ensures.updates in
    let next = named_first mid new own _ free refl refl set_block in
    (own_holds self.blocks.slots mid new self.lines.slots c.set_number.new.lines.slots self.waiting.items c.args.v c.args.j n own c.args.copies.items (items_out c.drop_name.result)
    self.blocked c.requires.within c.number_of-shared.ensures.number shared first (c.drop_name.ensures.none shared_then) next (ap names_in free)
    (ap items_in set_block.this) c.set_number.ensures.set).blocked

pub returns-clause-line : goal.returns-clause-line
returns-clause-line g c =
    let self = c.args.self.now in
    let n = c.number_of-shared.result in
    let own = c.in-Ok.own in
    let is : own ≡ c.vacant_key.result = c.in-Ok.ensures.number in
    let same : c.reserve.new.self.slots ≡ self.blocks.slots = ap (λ s. s.slots) c.reserve.ensures.rest_kept in
    let mid = c.drop_name.new.blocks.slots in
    let new = c.insert_reserved.new.self.slots in
    let shared : 1 < names_at self.blocks.slots n = subst (λ x. 1 < names_at self.blocks.slots x) (sym c.number_of-shared.ensures.number) c.requires.shared in
    let shared_then : 1 < names_at c.reserve.new.self.slots n = subst (λ (shelf : Shelf g.row.T.Denot g.row.S.Denot). 1 < names_at shelf n) (sym same) shared in
    let first = subst (λ (shelf : Shelf g.row.T.Denot g.row.S.Denot). Turns (n ∷ []) [] [] (items_out c.drop_name.result) shelf mid) same c.drop_name.ensures.turns in
    let key : c.insert_reserved.result ≡ own = c.insert_reserved.ensures.key ∙ c.drop_name.ensures.vacant shared_then ∙ sym c.vacant_key.ensures.value ∙ sym is in
    let free : get c.drop_name.new.blocks own ≡ None = subst (λ x. get c.drop_name.new.blocks x ≡ None) key c.insert_reserved.ensures.was_vacant in
    let set_block = updated_by c.drop_name.new.blocks c.drop_name.new.blocks c.insert_reserved.new.self own c.insert_reserved.result _ _ c.new.ensures refl key c.insert_reserved.ensures.updates in
    let next = named_first mid new own _ free refl refl set_block in
    let held = own_holds self.blocks.slots mid new self.lines.slots c.set_number.new.lines.slots self.waiting.items c.args.v c.args.j n own c.args.copies.items (items_out c.drop_name.result)
    self.blocked c.requires.within c.number_of-shared.ensures.number shared first (c.drop_name.ensures.none shared_then) next (ap names_in free)
    (ap items_in set_block.this) c.set_number.ensures.set in
    record {
      lines = held.lines_set;
      weight = own_weight self.blocks.slots mid new self.lines.slots c.set_number.new.lines.slots self.waiting.items c.args.v c.args.j n own c.args.copies.items (items_out c.drop_name.result)
          self.blocked c.requires.within c.number_of-shared.ensures.number shared first (c.drop_name.ensures.none shared_then) next;
      steps = refl;
      notes = λ note items noted. first.notes note items (next.notes note items noted);
    }

pub returns-clause-others : goal.returns-clause-others
returns-clause-others g c k inside other =
    let self = c.args.self.now in
    let n = c.number_of-shared.result in
    let own = c.in-Ok.own in
    let is : own ≡ c.vacant_key.result = c.in-Ok.ensures.number in
    let same : c.reserve.new.self.slots ≡ self.blocks.slots = ap (λ s. s.slots) c.reserve.ensures.rest_kept in
    let mid = c.drop_name.new.blocks.slots in
    let new = c.insert_reserved.new.self.slots in
    let shared : 1 < names_at self.blocks.slots n = subst (λ x. 1 < names_at self.blocks.slots x) (sym c.number_of-shared.ensures.number) c.requires.shared in
    let shared_then : 1 < names_at c.reserve.new.self.slots n = subst (λ (shelf : Shelf g.row.T.Denot g.row.S.Denot). 1 < names_at shelf n) (sym same) shared in
    let first = subst (λ (shelf : Shelf g.row.T.Denot g.row.S.Denot). Turns (n ∷ []) [] [] (items_out c.drop_name.result) shelf mid) same c.drop_name.ensures.turns in
    let key : c.insert_reserved.result ≡ own = c.insert_reserved.ensures.key ∙ c.drop_name.ensures.vacant shared_then ∙ sym c.vacant_key.ensures.value ∙ sym is in
    let free : get c.drop_name.new.blocks own ≡ None = subst (λ x. get c.drop_name.new.blocks x ≡ None) key c.insert_reserved.ensures.was_vacant in
    let set_block = updated_by c.drop_name.new.blocks c.drop_name.new.blocks c.insert_reserved.new.self own c.insert_reserved.result _ _ c.new.ensures refl key c.insert_reserved.ensures.updates in
    let next = named_first mid new own _ free refl refl set_block in
    let has = has_block self.blocks.slots self.lines.slots self.waiting.items c.args.v c.args.j self.blocked c.requires.within in
    let place : n ≡ get_or has.0 c.args.j 0 = c.number_of-shared.ensures.number ∙ has.3 in
    let turns = owned_turns n own self.blocks.slots mid new c.args.copies.items (items_out c.drop_name.result) first (c.drop_name.ensures.none shared_then) next in
    let line_set = rw has.1 at c.set_number.ensures.set in
    let there : k < length has.0 = omega (arith, inside, line_length self.blocks.slots self.lines.slots c.args.v has.0 has.1) in
    owned_names self.blocks.slots new self.lines.slots c.set_number.new.lines.slots self.waiting.items c.args.v self.blocked has.0 has.1 c.args.j has.2 own
    (still_free n own self.blocks.slots mid (items_out c.drop_name.result) first shared (ap names_in free))
    (subst (λ x. IsNamedAnew (x ∷ []) (own ∷ []) self.blocks.slots new) place turns.renames) line_set k there other
