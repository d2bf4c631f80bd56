-- The digest as text, and the line end behind it.
use Rattle.std.proofs.Common.{◌≡◌, ◌∙◌, ℕ, List, ◌++◌, drop, ap}
use Rattle.sqlite_disk.specs.Digest.{digest}
use Rattle.oai_journal.specs.Frames as spec
use Rattle.oai_journal.specs.Heads.{plain}
use Rattle.oai_journal.proofs.frames.write_digest.Goals as goal

pub returns-clause-items : goal.returns-clause-items
unfolding plain
returns-clause-items c =
    let own : ℕ = digest c.args.before (drop c.args.start c.args.out.now.items ++ c.args.body.now) in
    let same : c.digest_of-digest.result ≡ own =
    c.digest_of-digest.ensures ∙ ap (λ (l : List ℕ). digest c.args.before (l ++ c.args.body.now)) (c.behind.ensures ∙ ap (drop c.args.start) c.deref.ensures.value) in
    let text : c.put.new.out.items ≡ c.args.out.now.items ++ spec.digest_text own =
    c.put.ensures.items ∙ ap (λ (t : List ℕ). c.args.out.now.items ++ t) (c.digest_text.ensures ∙ ap spec.digest_text same) in
    c.put-2.ensures.items ∙ ap (λ (l : List ℕ). l ++ spec.plain_line_end) text
