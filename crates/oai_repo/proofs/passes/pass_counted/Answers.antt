-- How many items are selected says whether a list begins.
use Rattle.std.proofs.Common.{◌≡◌, ◌∙◌, ◌<◌, ◌≤◌, List, Some, None, IsTrue, refl, sym, length}
use Rattle.oai_item.specs.Item.{ItemState}
use Rattle.oai_repo.specs.Views.{view_new_list, view_open_lists, view_selected, view_selection_response}
use Rattle.oai_repo.proofs.PassLemmas.{selection_few, selection_many}
use Rattle.oai_holdings.proofs.IndexLemmas.{on_ok}
use Rattle.oai_repo.proofs.passes.pass_counted.Goals as goal

pub returns-then-size-chunk-clause-passed : goal.returns-then-size-chunk-clause-passed
returns-then-size-chunk-clause-passed g c = λ honest.
    let repo = c.args.repo.now in
    let all = g.V.Versions.lists c.args.store.now in
    let selection = c.args.selection in
    let chosen : List ItemState = view_selected repo all selection.filter in
    let few : length chosen ≤ repo.config.now.chunk = rw (c.chunk.ensures.chunk, c.requires.size honest) at c.if-size-chunk.true in
    sym (selection_few repo.config.now repo.clock (view_open_lists repo c.args.lists.now all) selection.verb selection.format.now chosen few)

pub start_unread-requires-clause-mark : goal.start_unread-requires-clause-mark
start_unread-requires-clause-mark g c = λ honest. refl

pub returns-in-Ok-clause-passed : goal.returns-in-Ok-clause-passed
returns-in-Ok-clause-passed g c =
    let V = g.V.Versions in
    let repo = c.args.repo.now in
    let table = c.args.lists.now in
    let all = V.lists c.args.store.now in
    let selection = c.args.selection in
    let chosen : List ItemState = view_selected repo all selection.filter in
    let after = view_open_lists repo c.start_unread.new.lists (V.lists c.start_unread.new.store) in
    let none = rw c.in-Ok.is at (c.number_or_wait.ensures.wait all) in
    let from : (IsTrue (V.honest c.args.store.now) → after ≡ (view_new_list repo table all selection None).1)
    → IsTrue (V.honest c.args.store.now) → after ≡ (view_selection_response repo table all selection).1 =
    λ begun honest.
    let many : repo.config.now.chunk < length chosen = rw (c.chunk.ensures.chunk, c.requires.size honest) at c.if-size-chunk.false in
    begun honest ∙ sym (selection_many repo.config.now repo.clock (view_open_lists repo table all) selection.verb selection.format.now chosen None many none)
    in
    on_ok c.start_unread.result _ _ from c.start_unread.ensures.passed

pub returns-in-Err-clause-passed : goal.returns-in-Err-clause-passed
returns-in-Err-clause-passed g c = λ honest.
    let repo = c.args.repo.now in
    let table = c.args.lists.now in
    let all = g.V.Versions.lists c.args.store.now in
    let selection = c.args.selection in
    let chosen : List ItemState = view_selected repo all selection.filter in
    let some = rw c.in-Err.is at (c.number_or_wait.ensures.wait all) in
    let many : repo.config.now.chunk < length chosen = rw (c.chunk.ensures.chunk, c.requires.size honest) at c.if-size-chunk.false in
    sym (selection_many repo.config.now repo.clock (view_open_lists repo table all) selection.verb selection.format.now chosen (Some _) many some)
