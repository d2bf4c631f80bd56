-- The first of the items are read, and nothing is changed by it.
use Rattle.std.proofs.Common.{◌∙◌, IsTrue}
use Rattle.oai_repo.specs.Views.{IsViewReply, view_selection_response}
use Rattle.oai_repo.specs.Replays.{AreAsBefore}
use Rattle.oai_repo.specs.declared.responses.Replied.{Replied}
use Rattle.oai_holdings.proofs.IndexLemmas.{if_ok}
use Rattle.oai_repo.proofs.ReplayLemmas.{as_before_read}
use Rattle.oai_repo.proofs.lists.reply_with_selection.Goals as goal

pub returns-clause-reply : goal.returns-clause-reply
returns-clause-reply g c =
    let V = g.V.Versions in
    let repo = c.args.repo.now in
    let table = c.args.lists.now in
    let selection = c.args.selection in
    let lists = c.reply_by_first.new.lists in
    let after = V.lists c.reply_by_first.new.store in
    let from : (replied : Replied) → (IsTrue (V.honest c.part.new.self) → IsViewReply repo (view_selection_response repo table (V.lists c.part.new.self) selection) replied lists after)
    → IsTrue (V.honest c.args.store.now) → IsViewReply repo (view_selection_response repo table (V.lists c.args.store.now) selection) replied lists after =
    λ replied h honest. rw c.part.ensures.same at (h (c.part.ensures.store.honesty.same ∙ honest)) in
    if_ok c.reply_by_first.result _ _ from c.reply_by_first.ensures.reply

pub returns-clause-same : goal.returns-clause-same
returns-clause-same g c =
    let V = g.V.Versions in
    let from : (replied : Replied) → AreAsBefore V replied.replay c.args.lists.now c.part.new.self c.reply_by_first.new.lists c.reply_by_first.new.store
    → AreAsBefore V replied.replay c.args.lists.now c.args.store.now c.reply_by_first.new.lists c.reply_by_first.new.store =
    λ replied h. as_before_read V replied.replay c.args.lists.now c.args.store.now c.part.new.self c.reply_by_first.new.lists c.reply_by_first.new.store c.part.ensures.same h in
    if_ok c.reply_by_first.result _ _ from c.reply_by_first.ensures.same
