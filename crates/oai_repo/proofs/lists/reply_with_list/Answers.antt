-- The reply is to what the request comes to.
use Rattle.std.proofs.Common.{refl}
use Rattle.oai_answers.specs.Borrowed.{attributes_of}
use Rattle.oai_repo.specs.declared.responses.Replay.TheVariants.{Tick}
use Rattle.oai_repo.proofs.ListReplyLemmas.{reply_as}
use Rattle.oai_repo.proofs.lists.reply_with_list.Goals as goal

pub reply_with_selection-requires-clause-selection : goal.reply_with_selection-requires-clause-selection
reply_with_selection-requires-clause-selection g c = (rw c.in-Ok.is at c.in_ok-asked.ensures).0

pub returns-in-Ok-clause-reply : goal.returns-in-Ok-clause-reply
returns-in-Ok-clause-reply g c =
    let same = (rw c.in-Ok.is at c.in_ok-asked.ensures).1 c.args.lists.now (g.V.Versions.lists c.args.store.now) in
    rw same c.reply_with_selection.ensures.reply

pub returns-in_ok-reply_with_error-in-Err-clause-reply : goal.returns-in_ok-reply_with_error-in-Err-clause-reply
returns-in_ok-reply_with_error-in-Err-clause-reply g c = λ honest.
    let repo = c.args.repo.now in
    let table = c.args.lists.now in
    let all = g.V.Versions.lists c.args.store.now in
    let error = (rw c.in-Err.is at c.in_ok-asked.ensures) table all (c.requires.ready.indexed honest) in
    rw c.listless.ensures
    (reply_as repo (attributes_of repo.asked) _ _ (record { reply = c.in_ok-reply_with_error-in-Err.field-0; replay = Tick }) table all error (record { written = c.in_ok-reply_with_error-in-Err.ensures; part = refl; open_lists = refl }))
