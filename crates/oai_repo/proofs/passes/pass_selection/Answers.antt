-- The items are counted, and nothing is changed by it.
use Rattle.std.proofs.Common.{◌≡◌, ◌∙◌, IsTrue}
use Rattle.oai_repo.specs.Views.{view_open_lists, view_selection_response}
use Rattle.oai_holdings.proofs.IndexLemmas.{on_ok}
use Rattle.oai_repo.proofs.passes.pass_selection.Goals as goal

pub returns-clause-passed : goal.returns-clause-passed
returns-clause-passed g c =
    let V = g.V.Versions in
    let repo = c.args.repo.now in
    let table = c.args.lists.now in
    let selection = c.args.selection in
    let after = view_open_lists repo c.pass_counted.new.lists (V.lists c.pass_counted.new.store) in
    let from : (IsTrue (V.honest c.count.new.self) → after ≡ (view_selection_response repo table (V.lists c.count.new.self) selection).1)
    → IsTrue (V.honest c.args.store.now) → after ≡ (view_selection_response repo table (V.lists c.args.store.now) selection).1 =
    λ passed honest. rw c.count.ensures.same at (passed (c.count.ensures.store.honesty.same ∙ honest)) in
    on_ok c.pass_counted.result _ _ from c.pass_counted.ensures.passed
