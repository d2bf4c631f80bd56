-- All items are one page, and none are no answer.
use Rattle.std.proofs.Common.{◌≡◌, ◌≢◌, ◌<◌, ◌∙◌, ℕ, sym, arith, length, eqb, false}
use Rattle.std.proofs.lemmas.Bool.{eqb-false, eqb-true}
use Rattle.oai_repo.proofs.ListReplyLemmas.{complete_none, complete_some}
use Rattle.oai_repo.proofs.lists.reply_with_all.Goals as goal

some : (n : ℕ) → eqb n 0 ≡ false → 0 < n
some n h = let other : n ≢ 0 = eqb-false n 0 h in omega (arith, other)

pub returns-then-is_empty : goal.returns-then-is_empty
returns-then-is_empty c =
    let none = eqb-true (length c.args.items.now) 0 (sym c.is_empty.ensures ∙ c.if-is_empty.true) in
    rw (complete_none c.args.repo.now.config.now c.args.selection.now.verb c.args.selection.now.format.now c.args.items.now none) c.reply_with_error.ensures

pub returns : goal.returns
returns c =
    let more = some (length c.args.items.now) (sym c.is_empty.ensures ∙ c.if-is_empty.false) in
    rw (complete_some c.args.repo.now.config.now c.args.selection.now.verb c.args.selection.now.format.now c.args.items.now more)
    (rw (c.answer_by_verb.ensures.answer, c.granularity.ensures) at c.make_reply.ensures)
