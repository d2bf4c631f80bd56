-- The list stands behind the others, and its version holds the items as they stand.
use Rattle.std.proofs.Common.{◌≡◌, ◌∙◌, Bool, List, IsTrue, ap, subst, sym, FitsSigned, take, w64}
use Rattle.std.proofs.lemmas.Int.{to_z-of_z}
use Rattle.oai_item.specs.Item.{ItemState}
use Rattle.oai_answers.specs.Answers.{Page}
use Rattle.oai_repo.specs.Views.{document_reply, view_open_lists, view_selected}
use Rattle.oai_repo.specs.Listing.{answer_by_verb, items_from, new_list}
use Rattle.oai_repo.specs.State.{FrozenList}
use Rattle.oai_repo.proofs.ListReplyLemmas.{part_first}
use Rattle.oai_repo.proofs.MarkLemmas.{mark_first}
use Rattle.oai_repo.proofs.ClockLemmas.{years_fit}
use Rattle.oai_repo.proofs.PartLemmas.{first_end, part_is}
use Rattle.oai_repo.proofs.ReplayLemmas.{part_opened}
use Rattle.oai_repo.proofs.WaitLemmas.{may_begin}
use Rattle.oai_repo.proofs.lists.start_list.Goals as goal

pub start_unread-requires-clause-mark : goal.start_unread-requires-clause-mark
start_unread-requires-clause-mark g c = λ honest.
    let repo = c.args.repo.now in
    let chosen : List ItemState = view_selected repo (g.V.Versions.lists c.args.store.now) c.args.selection.filter in
    let was : IsTrue (g.V.Versions.honest c.args.store.now) = subst (λ (b : Bool). IsTrue b) c.count_selected.ensures.reads.store.honesty.same honest in
    let next : c.end_of_part-next.result ≡ repo.config.now.chunk = first_end repo.config.now.chunk c.in_ok-size.size c.end_of_part-next.result (rw c.chunk.ensures.chunk at c.end_of_part-next.ensures) c.in_ok-size.ensures.beyond in
    let behind = rw next at c.mark_behind-mark.ensures in
    rw c.count_selected.ensures.reads.same (mark_first chosen c.args.first.now repo.config.now.chunk c.mark_behind-mark.result (c.requires.first.items was) c.requires.first.more behind)

pub returns-clause-reply : goal.returns-clause-reply
returns-clause-reply g c = λ honest.
    let fits_now : FitsSigned w64 c.args.repo.now.clock = years_fit c.args.repo.now.clock c.requires.ready.dated in
    let fits : FitsSigned w64 c.end.result = record { sfits = c.end.type_inv } in
    let repo = c.args.repo.now in
    let config = repo.config.now in
    let table = c.args.lists.now in
    let all = g.V.Versions.lists c.args.store.now in
    let selection = c.args.selection in
    let chosen : List ItemState = view_selected repo all selection.filter in
    let list : FrozenList = new_list config repo.clock (view_open_lists repo table all) selection.verb selection.format.now.prefix chosen in
    let number = (may_begin config repo.clock table all c.args.number c.requires.ready.kept.limit c.requires.next).1 in
    let size = c.in_ok-size.ensures.size honest in
    let part : take config.chunk c.args.first.now ≡ items_from config list 0 = part_first config.chunk chosen c.args.first.now (c.requires.first.items honest) in
    let page = part_is config list (take config.chunk c.args.first.now) c.args.number c.in_ok-size.size 0 c.end.result number size c.end.ensures.end part in
    let next : c.end_of_part-next.result ≡ config.chunk = first_end config.chunk c.in_ok-size.size c.end_of_part-next.result (rw c.chunk.ensures.chunk at c.end_of_part-next.ensures) c.in_ok-size.ensures.beyond in
    let told = simp to_z-of_z at (rw next at c.in_ok-reply.ensures) in
    let again : IsTrue (g.V.Versions.honest c.count_selected.new.store) = subst (λ (b : Bool). IsTrue b) (sym c.count_selected.ensures.reads.store.honesty.same) honest in
    let open_lists = rw c.count_selected.ensures.reads.same at (c.in_ok-start_unread.ensures.passed again) in
    rw c.with_part.ensures (record {
      written = told ∙ ap (λ (p : Page). document_reply repo (answer_by_verb selection.verb selection.format.now p)) page;
      part = sym (part_opened config selection.verb selection.format.now list 0 c.requires.selection.lists);
      open_lists = open_lists;
    })

pub returns-clause-left : goal.returns-clause-left
returns-clause-left g c =
    let left = c.in_ok-start_unread.ensures.left in
    record {
      left = rw c.count_selected.ensures.reads.same at left.left;
      agrees = λ honest. left.agrees (subst (λ (b : Bool). IsTrue b) (sym c.count_selected.ensures.reads.store.honesty.same) honest);
      err = tt;
      err_lists = tt;
    }
