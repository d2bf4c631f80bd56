-- A frame is what stands before the record's bytes, these, and a line end.
use Rattle.std.proofs.Common.{◌++◌, ℕ, List, sym, ◌∙◌, ap, IsTrue}
use Rattle.std.proofs.lemmas.Bool.{false≢true}
use Rattle.oai_journal.specs.Frames as spec
use Rattle.oai_journal.proofs.frames.frame_digest.Goals as goal

pub returns-then-is_framed-clause-spelled : goal.returns-then-is_framed-clause-spelled
returns-then-is_framed-clause-spelled c =
    let front = c.deref.ensures.value ∙ c.write_digest-digest.ensures.items in
    (c.is_framed.ensures.0 c.if-is_framed.true ∙ ap (λ (l : List ℕ). l ++ (c.args.body.now ++ spec.plain_line_end)) front, c.write_digest-digest.ensures.returned)

pub returns-else-is_framed-clause-spelled : goal.returns-else-is_framed-clause-spelled
returns-else-is_framed-clause-spelled c is =
    let front = c.deref.ensures.value ∙ c.write_digest-digest.ensures.items in
    let yes : IsTrue c.is_framed.result = c.is_framed.ensures.1 (is ∙ ap (λ (l : List ℕ). l ++ (c.args.body.now ++ spec.plain_line_end)) (sym front)) in
    false≢true (sym c.if-is_framed.false ∙ yes)
