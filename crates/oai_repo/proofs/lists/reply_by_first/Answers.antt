-- The first of the items say whether they are all.
use Rattle.std.proofs.Common.{◌<◌, ◌≤◌, List, IsTrue, refl, sym, length}
use Rattle.oai_answers.specs.Borrowed.{attributes_of}
use Rattle.oai_item.specs.Item.{ItemState}
use Rattle.oai_repo.specs.Views.{IsViewReply, view_new_list, view_open_lists, view_selected, view_selection_response, view_wait}
use Rattle.oai_repo.specs.declared.responses.Replied.{Replied}
use Rattle.oai_repo.specs.declared.responses.Replay.TheVariants.{Tick}
use Rattle.oai_holdings.proofs.IndexLemmas.{if_ok}
use Rattle.oai_repo.proofs.ListReplyLemmas.{many_first, reply_as, selection_opens, selection_whole}
use Rattle.oai_repo.proofs.ReplayLemmas.{part_complete}
use Rattle.oai_repo.proofs.lists.reply_by_first.Goals as goal

pub returns-then-chunk-first-clause-reply : goal.returns-then-chunk-first-clause-reply
returns-then-chunk-first-clause-reply g c =
    let V = g.V.Versions in
    let repo = c.args.repo.now in
    let table = c.args.lists.now in
    let all = V.lists c.args.store.now in
    let selection = c.args.selection in
    let chosen : List ItemState = view_selected repo all selection.filter in
    let lists = c.open_list.new.lists in
    let after = V.lists c.open_list.new.store in
    let from : (replied : Replied) → (IsTrue (V.honest c.args.store.now) → IsViewReply repo (view_new_list repo table all selection (view_wait repo table all)) replied lists after)
    → IsTrue (V.honest c.args.store.now) → IsViewReply repo (view_selection_response repo table all selection) replied lists after =
    λ replied h honest.
    let many : repo.config.now.chunk < length c.args.first.now = rw c.chunk.ensures.chunk at c.if-chunk-first.true in
    let opens = selection_opens repo.config.now repo.clock (view_open_lists repo table all) selection.verb selection.format.now chosen (many_first repo.config.now.chunk chosen c.args.first.now (c.requires.first honest) many) in
    reply_as repo (attributes_of repo.asked) _ _ replied lists after opens (h honest)
    in
    if_ok c.open_list.result _ _ from c.open_list.ensures.reply

pub returns-clause-reply : goal.returns-clause-reply
returns-clause-reply g c = λ honest.
    let repo = c.args.repo.now in
    let table = c.args.lists.now in
    let all = g.V.Versions.lists c.args.store.now in
    let selection = c.args.selection in
    let chosen : List ItemState = view_selected repo all selection.filter in
    let few : length c.args.first.now ≤ repo.config.now.chunk = rw c.chunk.ensures.chunk at c.if-chunk-first.false in
    let complete = selection_whole repo.config.now repo.clock (view_open_lists repo table all) selection.verb selection.format.now chosen c.args.first.now (c.requires.first honest) few in
    let none = part_complete repo.config.now selection.verb selection.format.now c.args.first.now in
    rw c.listless.ensures (reply_as repo (attributes_of repo.asked) _ _ (record { reply = c.in_ok-reply_with_all.field-0; replay = Tick }) table all complete (record { written = c.in_ok-reply_with_all.ensures; part = sym none; open_lists = refl }))
