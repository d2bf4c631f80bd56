-- The part is that of the list as the state has it, and the mark stands behind it.
use Rattle.std.proofs.Common.{◌∙◌, ◌+◌, ℕ, Option, ap, refl, sym, length, FitsSigned, w64}
use Rattle.std.proofs.lemmas.Int.{to_z-of_z}
use Rattle.std.proofs.lemmas.Bool.{eqb-true}
use Rattle.oai_answers.specs.Answers.{Page}
use Rattle.oai_item.specs.declared.formats.Format.{Format}
use Rattle.oai_repo.specs.Views.{document_reply}
use Rattle.oai_repo.specs.Fields.{frozen_in, items_frozen}
use Rattle.oai_repo.specs.Listing.{answer_by_verb, cursor_behind, part_answer, part_from, prolonged}
use Rattle.oai_repo.specs.State.{FrozenList}
use Rattle.oai_repo.proofs.ClockLemmas.{years_fit}
use Rattle.oai_repo.proofs.MarkLemmas.{mark_place}
use Rattle.oai_repo.proofs.PartLemmas.{part_is}
use Rattle.oai_repo.proofs.tokens.reply_from.Goals as goal

pub returns-clause-reply : goal.returns-clause-reply
returns-clause-reply g c = λ honest.
    let fits_now : FitsSigned w64 c.args.repo.now.clock = years_fit c.args.repo.now.clock c.requires.dated in
    let fits : FitsSigned w64 c.end.result = record { sfits = c.end.type_inv } in
    let repo = c.args.repo.now in
    let config = repo.config.now in
    let all = g.V.Versions.lists c.args.store.now in
    let list : FrozenList = prolonged config repo.clock (frozen_in all c.args.list.now) in
    let size = eqb-true c.args.list.now.size (length (frozen_in all c.args.list.now).items) (c.requires.list.counted honest) in
    let items = rw c.chunk-chunk.ensures.chunk at (c.in_ok-items.ensures.items honest) in
    let page = part_is config list c.in_ok-items.items c.args.list.now.number c.args.list.now.size c.args.cursor c.end.result refl size c.end.ensures.end items in
    (simp to_z-of_z at (rw c.as_slice.ensures at c.in_ok-reply.ensures))
    ∙ ap (λ (p : Page). document_reply repo (answer_by_verb c.args.verb c.format_of-format.result.now p)) page
    ∙ ap (λ (f : Option Format). document_reply repo (part_answer c.args.verb f (part_from config list c.args.cursor))) (sym c.format_of-format.ensures)

pub returns-clause-next : goal.returns-clause-next
returns-clause-next g c = λ honest.
    let config = c.args.repo.now.config.now in
    let all = g.V.Versions.lists c.args.store.now in
    let list : FrozenList = frozen_in all c.args.list.now in
    let size = eqb-true c.args.list.now.size (length list.items) (c.requires.list.counted honest) in
    let items = rw c.chunk-chunk.ensures.chunk at (c.in_ok-items.ensures.items honest) in
    c.cursor_behind.ensures
    ∙ ap (cursor_behind c.args.list.now.size) (sym c.in_ok-items.ensures.next)
    ∙ ap (λ (n : ℕ). cursor_behind n (c.args.cursor + length c.in_ok-items.items)) size
    ∙ ap (λ xs. cursor_behind (length list.items) (c.args.cursor + length xs)) items

pub returns-clause-mark : goal.returns-clause-mark
returns-clause-mark g c = λ honest.
    let all = g.V.Versions.lists c.args.store.now in
    mark_place (items_frozen all c.args.list.now) c.in_ok-items.items c.args.cursor c.chunk-chunk.result c.mark_behind.result (c.in_ok-items.ensures.items honest)
    (rw (sym c.in_ok-items.ensures.next, c.as_slice-2.ensures) at c.mark_behind.ensures)
