use Rattle.std.proofs.Common.{◌∙◌, ℕ, ◌||◌, List, ap, sym, rules}
use Rattle.std.specs.Str.{bytes_eq}
use Rattle.oai_item.specs.Membership.{is_above}
use Rattle.oai_item.specs.Reductions.{holds}
use Rattle.oai_item.proofs.Above.{holds_more, is_above-parent, is_above-root, or_between, or_false, parent_shorter}
use Rattle.oai_item.proofs.reductions.add_above.Goals as goal

pub loop-parent-smaller : goal.loop-parent-smaller
loop-parent-smaller c = parent_shorter c.loop-parent.path.now c.in-Some.parent.now (sym c.in-Some.ensures)

-- the parent is held now, and what is above it is still to come
pub loop-parent-preserved : goal.loop-parent-preserved
loop-parent-preserved c =
    let path : List ℕ = c.loop-parent.path.now in
    let parent : List ℕ = c.in-Some.parent.now in
    record {
      text = search rules;
      above = λ q.
          ap (λ b. b || is_above q parent) (holds_more c.loop-parent.names c.insert.new.self c.in-Some.parent c.in_ok-insert.ensures.updates q)
          ∙ or_between (holds c.loop-parent.names q) (bytes_eq q parent) (is_above q parent)
          ∙ ap (λ b. holds c.loop-parent.names q || b) (sym (is_above-parent path parent q (sym c.in-Some.ensures)))
          ∙ c.loop-parent.invariant.above q;
    }

pub returns : goal.returns
returns c = λ q.
    sym (ap (λ b. holds c.loop-parent.names q || b) (is_above-root c.loop-parent.path.now q (sym c.in_default.ensures)) ∙ or_false _)
    ∙ c.loop-parent.invariant.above q
