use Rattle.std.proofs.Common.{◌≡◌, ◌∙◌, ◌++◌, List, [], Option, None, Some, drop, get_or, take, refl, ap, subst, sym}
use Rattle.std.specs.Prelude.{unwrap_or}
use Rattle.slab.specs.Slab.{get}
use Rattle.oai_blocks.specs.Blocks.{Shelf, items_at, items_in, lines_on, names_at, names_in}
use Rattle.oai_blocks.specs.Calls.{IsLineSet, listed}
use Rattle.oai_blocks.specs.Naming.{Alters}
use Rattle.oai_blocks.specs.Store.{block_of, line_at}
use Rattle.oai_blocks.proofs.LineLemmas.{cut_holds, cut_names, cut_weight, has_block, unset}
use Rattle.oai_blocks.proofs.ListedLemmas.{cut_blocks, listed_cut}
use Rattle.oai_blocks.proofs.ShelfLemmas.{named_first, not_err, updated_by, was_err}
use Rattle.oai_blocks.proofs.lines.BlockLines.cut.Goals as goal

pub invariant_of-self-then-is_err-clause-blocked : goal.invariant_of-self-then-is_err-clause-blocked
invariant_of-self-then-is_err-clause-blocked g c =
    let self = c.args.self.now in
    let same : c.reserve.new.self.slots ≡ self.blocks.slots = ap (λ s. s.slots) c.reserve.ensures.rest_kept in
    let set = was_err c.insert_number.result (sym c.is_err.ensures.value ∙ c.if-is_err.true) c.insert_number.ensures.err in
    rw same (unset self.blocks.slots self.lines.slots self.waiting.items c.args.v self.blocked self.blocks.slots c.insert_number.new.lines.slots set).blocked

pub invariant_of-self-2-clause-blocked : goal.invariant_of-self-2-clause-blocked
invariant_of-self-2-clause-blocked g c =
    let self = c.args.self.now in
    let n = c.number_of-number.result in
    let k = c.in_ok-next.next in
    let is : k ≡ c.vacant_key.result = c.in_ok-next.ensures.number in
    let same : c.reserve.new.self.slots ≡ self.blocks.slots = ap (λ s. s.slots) c.reserve.ensures.rest_kept in
    let mid = c.cut_items.new.blocks.slots in
    let new = c.insert_reserved.new.self.slots in
    let tail : List g.row.T.Denot = c.cut_items.new.tail.items in
    let alters = subst (λ (shelf : Shelf g.row.T.Denot g.row.S.Denot). Alters n (take c.args.i (items_at shelf n)) shelf mid) same c.cut_items.ensures.alters in
    let tail_is : tail ≡ drop c.args.i (items_at self.blocks.slots n) =
    c.cut_items.ensures.tail ∙ ap (λ (t : List g.row.T.Denot). t ++ drop c.args.i (items_at c.reserve.new.self.slots n)) c.in_ok-tail.ensures.items ∙ ap (λ (shelf : Shelf g.row.T.Denot g.row.S.Denot). drop c.args.i (items_at shelf n)) same in
    let key : c.insert_reserved.result ≡ k = c.insert_reserved.ensures.key ∙ c.cut_items.ensures.vacant ∙ sym c.vacant_key.ensures.value ∙ sym is in
    let free : get c.cut_items.new.blocks k ≡ None = subst (λ x. get c.cut_items.new.blocks x ≡ None) key c.insert_reserved.ensures.was_vacant in
    let set_block = updated_by c.cut_items.new.blocks c.cut_items.new.blocks c.insert_reserved.new.self k c.insert_reserved.result _ _ c.new.ensures refl key c.insert_reserved.ensures.updates in
    let turns = named_first mid new k _ free refl refl set_block in
    let line_set = not_err c.insert_number.result (sym c.is_err.ensures.value ∙ c.if-is_err.false) c.insert_number.ensures.set in
    let held = cut_holds self.blocks.slots mid new self.lines.slots c.insert_number.new.lines.slots self.waiting.items c.args.v c.args.j c.args.i n k (block_of self c.args.v c.args.j) tail
    self.blocked c.requires.block c.requires.own c.number_of-number.ensures.number c.number_of-number.ensures.items alters tail_is turns
    (ap names_in free) (ap items_in set_block.this) line_set in
    held.blocked

pub returns-clause-line : goal.returns-clause-line
returns-clause-line g c =
    let self = c.args.self.now in
    let n = c.number_of-number.result in
    let k = c.in_ok-next.next in
    let is : k ≡ c.vacant_key.result = c.in_ok-next.ensures.number in
    let same : c.reserve.new.self.slots ≡ self.blocks.slots = ap (λ s. s.slots) c.reserve.ensures.rest_kept in
    let mid = c.cut_items.new.blocks.slots in
    let new = c.insert_reserved.new.self.slots in
    let tail : List g.row.T.Denot = c.cut_items.new.tail.items in
    let alters = subst (λ (shelf : Shelf g.row.T.Denot g.row.S.Denot). Alters n (take c.args.i (items_at shelf n)) shelf mid) same c.cut_items.ensures.alters in
    let tail_is : tail ≡ drop c.args.i (items_at self.blocks.slots n) =
    c.cut_items.ensures.tail ∙ ap (λ (t : List g.row.T.Denot). t ++ drop c.args.i (items_at c.reserve.new.self.slots n)) c.in_ok-tail.ensures.items ∙ ap (λ (shelf : Shelf g.row.T.Denot g.row.S.Denot). drop c.args.i (items_at shelf n)) same in
    let key : c.insert_reserved.result ≡ k = c.insert_reserved.ensures.key ∙ c.cut_items.ensures.vacant ∙ sym c.vacant_key.ensures.value ∙ sym is in
    let free : get c.cut_items.new.blocks k ≡ None = subst (λ x. get c.cut_items.new.blocks x ≡ None) key c.insert_reserved.ensures.was_vacant in
    let set_block = updated_by c.cut_items.new.blocks c.cut_items.new.blocks c.insert_reserved.new.self k c.insert_reserved.result _ _ c.new.ensures refl key c.insert_reserved.ensures.updates in
    let turns = named_first mid new k _ free refl refl set_block in
    let line_set = not_err c.insert_number.result (sym c.is_err.ensures.value ∙ c.if-is_err.false) c.insert_number.ensures.set in
    let held = cut_holds self.blocks.slots mid new self.lines.slots c.insert_number.new.lines.slots self.waiting.items c.args.v c.args.j c.args.i n k (block_of self c.args.v c.args.j) tail
    self.blocked c.requires.block c.requires.own c.number_of-number.ensures.number c.number_of-number.ensures.items alters tail_is turns
    (ap names_in free) (ap items_in set_block.this) line_set in
    record {
      lines = subst (λ (l : List (List g.row.T.Denot)). IsLineSet c.args.v (Some l) (lines_on self.blocks.slots self.lines.slots) (lines_on new c.insert_number.new.lines.slots))
          (cut_blocks (line_at self c.args.v) c.args.j c.args.i c.requires.block) held.lines_set;
      weight = cut_weight self.blocks.slots mid new self.lines.slots c.insert_number.new.lines.slots self.waiting.items c.args.v c.args.j c.args.i n k (block_of self c.args.v c.args.j) tail
          self.blocked c.requires.block c.requires.own c.number_of-number.ensures.number c.number_of-number.ensures.items alters tail_is turns;
      steps = refl;
      notes = λ note items noted. alters.notes note items (turns.notes note items noted);
    }

pub returns-clause-list : goal.returns-clause-list
returns-clause-list g c =
    let self = c.args.self.now in
    let n = c.number_of-number.result in
    let k = c.in_ok-next.next in
    let is : k ≡ c.vacant_key.result = c.in_ok-next.ensures.number in
    let same : c.reserve.new.self.slots ≡ self.blocks.slots = ap (λ s. s.slots) c.reserve.ensures.rest_kept in
    let mid = c.cut_items.new.blocks.slots in
    let new = c.insert_reserved.new.self.slots in
    let tail : List g.row.T.Denot = c.cut_items.new.tail.items in
    let alters = subst (λ (shelf : Shelf g.row.T.Denot g.row.S.Denot). Alters n (take c.args.i (items_at shelf n)) shelf mid) same c.cut_items.ensures.alters in
    let tail_is : tail ≡ drop c.args.i (items_at self.blocks.slots n) =
    c.cut_items.ensures.tail ∙ ap (λ (t : List g.row.T.Denot). t ++ drop c.args.i (items_at c.reserve.new.self.slots n)) c.in_ok-tail.ensures.items ∙ ap (λ (shelf : Shelf g.row.T.Denot g.row.S.Denot). drop c.args.i (items_at shelf n)) same in
    let key : c.insert_reserved.result ≡ k = c.insert_reserved.ensures.key ∙ c.cut_items.ensures.vacant ∙ sym c.vacant_key.ensures.value ∙ sym is in
    let free : get c.cut_items.new.blocks k ≡ None = subst (λ x. get c.cut_items.new.blocks x ≡ None) key c.insert_reserved.ensures.was_vacant in
    let set_block = updated_by c.cut_items.new.blocks c.cut_items.new.blocks c.insert_reserved.new.self k c.insert_reserved.result _ _ c.new.ensures refl key c.insert_reserved.ensures.updates in
    let turns = named_first mid new k _ free refl refl set_block in
    let line_set = not_err c.insert_number.result (sym c.is_err.ensures.value ∙ c.if-is_err.false) c.insert_number.ensures.set in
    let held = cut_holds self.blocks.slots mid new self.lines.slots c.insert_number.new.lines.slots self.waiting.items c.args.v c.args.j c.args.i n k (block_of self c.args.v c.args.j) tail
    self.blocked c.requires.block c.requires.own c.number_of-number.ensures.number c.number_of-number.ensures.items alters tail_is turns
    (ap names_in free) (ap items_in set_block.this) line_set in
    ap (λ (line : Option (List (List g.row.T.Denot))). listed (unwrap_or line [])) held.lines_set.this
    ∙ ap (λ (l : List (List g.row.T.Denot)). listed l) (cut_blocks (line_at self c.args.v) c.args.j c.args.i c.requires.block)
    ∙ listed_cut (line_at self c.args.v) c.args.j c.args.i c.requires.block

pub returns-clause-names : goal.returns-clause-names
returns-clause-names g c =
    let self = c.args.self.now in
    let n = c.number_of-number.result in
    let k = c.in_ok-next.next in
    let is : k ≡ c.vacant_key.result = c.in_ok-next.ensures.number in
    let same : c.reserve.new.self.slots ≡ self.blocks.slots = ap (λ s. s.slots) c.reserve.ensures.rest_kept in
    let mid = c.cut_items.new.blocks.slots in
    let new = c.insert_reserved.new.self.slots in
    let tail : List g.row.T.Denot = c.cut_items.new.tail.items in
    let alters = subst (λ (shelf : Shelf g.row.T.Denot g.row.S.Denot). Alters n (take c.args.i (items_at shelf n)) shelf mid) same c.cut_items.ensures.alters in
    let tail_is : tail ≡ drop c.args.i (items_at self.blocks.slots n) =
    c.cut_items.ensures.tail ∙ ap (λ (t : List g.row.T.Denot). t ++ drop c.args.i (items_at c.reserve.new.self.slots n)) c.in_ok-tail.ensures.items ∙ ap (λ (shelf : Shelf g.row.T.Denot g.row.S.Denot). drop c.args.i (items_at shelf n)) same in
    let key : c.insert_reserved.result ≡ k = c.insert_reserved.ensures.key ∙ c.cut_items.ensures.vacant ∙ sym c.vacant_key.ensures.value ∙ sym is in
    let free : get c.cut_items.new.blocks k ≡ None = subst (λ x. get c.cut_items.new.blocks x ≡ None) key c.insert_reserved.ensures.was_vacant in
    let set_block = updated_by c.cut_items.new.blocks c.cut_items.new.blocks c.insert_reserved.new.self k c.insert_reserved.result _ _ c.new.ensures refl key c.insert_reserved.ensures.updates in
    let turns = named_first mid new k _ free refl refl set_block in
    let line_set = not_err c.insert_number.result (sym c.is_err.ensures.value ∙ c.if-is_err.false) c.insert_number.ensures.set in
    let has = has_block self.blocks.slots self.lines.slots self.waiting.items c.args.v c.args.j self.blocked c.requires.block in
    let place : n ≡ get_or has.0 c.args.j 0 = c.number_of-number.ensures.number ∙ has.3 in
    let named : names_at mid (get_or has.0 c.args.j 0) ≡ 1 =
    subst (λ x. names_at mid x ≡ 1) place (alters.names ∙ ap (names_at self.blocks.slots) c.number_of-number.ensures.number ∙ c.requires.own) in
    cut_names mid new self.lines.slots c.insert_number.new.lines.slots c.args.v has.0 c.args.j has.2 k _ free named refl set_block (rw has.1 at line_set)
