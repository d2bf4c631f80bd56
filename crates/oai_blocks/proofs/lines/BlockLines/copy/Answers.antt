use Rattle.std.proofs.Common.{◌≡◌, ◌∙◌, ℕ, List, Option, Some, refl, arith, ap, subst, sym}
use Rattle.std.specs.Prelude.{count_by, is_some}
use Rattle.oai_blocks.specs.Blocks.{numbers_at, steps_for, times_named, times_in}
use Rattle.oai_blocks.specs.Naming.{IsSlotSet}
use Rattle.oai_blocks.proofs.LineLemmas.{copied, named_at}
use Rattle.oai_blocks.proofs.ShelfLemmas.{updated, vacant_in}
use Rattle.oai_blocks.proofs.WaitingLemmas.{few_named}
use Rattle.oai_blocks.proofs.lines.BlockLines.copy.Goals as goal

pub name_all-requires-clause-stand : goal.name_all-requires-clause-stand
name_all-requires-clause-stand g c b among =
    let self = c.args.self.now in
    let numbers = c.as_slice-2.result.now in
    let line : numbers ≡ c.in-Some.line.now = c.as_slice-2.ensures.value ∙ c.in_ok-numbers.ensures.items ∙ c.as_slice.ensures.value ∙ c.line.view_is in
    let stands : numbers_at self.lines.slots c.args.v ≡ Some numbers = sym c.in-Some.ensures ∙ ap Some (sym line) in
    let own : times_in b (numbers_at self.lines.slots c.args.v) ≡ times_named b numbers = ap (times_in b) stands in
    omega (arith, among, own, named_at self.blocks.slots self.lines.slots self.waiting.items c.args.v self.blocked b)

pub name_all-requires-clause-few : goal.name_all-requires-clause-few
name_all-requires-clause-few g c b =
    let self = c.args.self.now in
    let few = few_named self.blocks.slots self.lines.slots self.waiting.items self.blocked b in
    let lines : count_by is_some c.reserve_line.new.lines.slots ≡ count_by is_some self.lines.slots = ap (λ (slots : List (Option (List ℕ))). count_by is_some slots) c.reserve_line.ensures.slots in
    let len = c.reserve_line.ensures.len in
    let fits = c.in_ok-reserve_line.ensures.fits in
    omega (arith, few, lines, len, fits, self.waiting.ok.0)

pub name_all-requires-clause-once : goal.name_all-requires-clause-once
name_all-requires-clause-once g c b =
    let self = c.args.self.now in
    let numbers = c.as_slice-2.result.now in
    let line : numbers ≡ c.in-Some.line.now = c.as_slice-2.ensures.value ∙ c.in_ok-numbers.ensures.items ∙ c.as_slice.ensures.value ∙ c.line.view_is in
    let stands : numbers_at self.lines.slots c.args.v ≡ Some numbers = sym c.in-Some.ensures ∙ ap Some (sym line) in
    let own : times_in b (numbers_at self.lines.slots c.args.v) ≡ times_named b numbers = ap (times_in b) stands in
    omega (arith, own, self.blocked.once c.args.v b)

pub invariant_of-self-2-clause-blocked : goal.invariant_of-self-2-clause-blocked
invariant_of-self-2-clause-blocked g c =
    let self = c.args.self.now in
    let w = c.insert_reserved.result in
    let numbers = c.as_slice-2.result.now in
    let line : numbers ≡ c.in-Some.line.now = c.as_slice-2.ensures.value ∙ c.in_ok-numbers.ensures.items ∙ c.as_slice.ensures.value ∙ c.line.view_is in
    let stands : numbers_at self.lines.slots c.args.v ≡ Some numbers = sym c.in-Some.ensures ∙ ap Some (sym line) in
    let inserted = updated self.lines c.reserve_line.new.lines c.insert_reserved.new.self w w _ c.reserve_line.ensures.slots refl c.insert_reserved.ensures.updates in
    let set = subst (λ (l : List ℕ). IsSlotSet w (Some l) self.lines.slots c.insert_reserved.new.self.slots) (sym c.as_slice-2.ensures.value) inserted in
    let vacant = vacant_in self.lines c.reserve_line.new.lines w c.reserve_line.ensures.slots c.insert_reserved.ensures.was_vacant in
    rw c.reserve_line.ensures.items
    (copied self.blocks.slots c.name_all.new.blocks.slots self.lines.slots self.waiting.items c.args.v self.blocked w c.insert_reserved.new.self.slots numbers _ _ stands vacant c.name_all.ensures set).blocked

pub returns-clause-line : goal.returns-clause-line
returns-clause-line g c =
    let self = c.args.self.now in
    let w = c.insert_reserved.result in
    let numbers = c.as_slice-2.result.now in
    let line : numbers ≡ c.in-Some.line.now = c.as_slice-2.ensures.value ∙ c.in_ok-numbers.ensures.items ∙ c.as_slice.ensures.value ∙ c.line.view_is in
    let stands : numbers_at self.lines.slots c.args.v ≡ Some numbers = sym c.in-Some.ensures ∙ ap Some (sym line) in
    let inserted = updated self.lines c.reserve_line.new.lines c.insert_reserved.new.self w w _ c.reserve_line.ensures.slots refl c.insert_reserved.ensures.updates in
    let set = subst (λ (l : List ℕ). IsSlotSet w (Some l) self.lines.slots c.insert_reserved.new.self.slots) (sym c.as_slice-2.ensures.value) inserted in
    let vacant = vacant_in self.lines c.reserve_line.new.lines w c.reserve_line.ensures.slots c.insert_reserved.ensures.was_vacant in
    record {
      lines = (copied self.blocks.slots c.name_all.new.blocks.slots self.lines.slots self.waiting.items c.args.v self.blocked w c.insert_reserved.new.self.slots numbers _ _ stands vacant c.name_all.ensures set).lines_set;
      weight = c.name_all.ensures.weight;
      steps = ap steps_for c.reserve_line.ensures.items;
      notes = c.name_all.ensures.notes;
    }
