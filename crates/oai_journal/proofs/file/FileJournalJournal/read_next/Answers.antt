-- The next record is read, or all were.
use Rattle.std.proofs.Common.{◌∙◌, ℕ, ◌+◌, ◌<◌, ◌≤◌, List, false, length, drop, subst, sym, ap, arith}
use Rattle.std.proofs.lemmas.Bool.{false≢true}
use Rattle.oai_journal.specs.Recoveries.{HasFrame}
use Rattle.oai_journal.proofs.TailLemmas.{all_read, one_read}
use Rattle.oai_journal.proofs.file.FileJournalJournal.read_next.Goals as goal

pub returns-then-is_at_end-clause-end : goal.returns-then-is_at_end-clause-end
returns-then-is_at_end-clause-end g c none entries durable read behind held parts stands =
    all_read _ _ _ c.args.self.now c.args.tail.now entries durable read behind held c.if-self.false parts stands (c.is_at_end.ensures.0 c.if-is_at_end.true)

pub returns-in-Ok-clause-next : goal.returns-in-Ok-clause-next
returns-in-Ok-clause-next g c more clean entries durable read behind held parts stands =
    let l = c.in_ok-len.ensures in
    let a = c.in-Ok.ensures in
    let still = a.clean clean in
    let block = l.block (stands.block (l.clean still)) in
    let found = a.found clean block (l.len still ∙ ap length (sym l.seen)) in
    let here = subst (λ (file : List ℕ). HasFrame false c.args.tail.now.digest (drop (c.args.tail.now.at + 1) file) c.advance.new.self.frame.items c.advance.new.self.digest) l.seen found in
    let over : c.args.self.now.end ≤ c.args.tail.now.at → ⊥ = λ h. false≢true (sym c.if-is_at_end.false ∙ c.is_at_end.ensures.1 h) in
    let low : c.args.tail.now.at < c.args.self.now.end = omega (arith, over) in
    one_read _ _ _ c.args.self.now _ c.args.tail.now c.advance.new.self entries durable read behind held c.if-self.false parts stands (a.seen ∙ l.seen) (a.block clean block) low here a.moved
