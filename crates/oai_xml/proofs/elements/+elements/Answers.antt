-- Each function of the cycle reads what one definition says: a lemma of ElementPieces leads from what its calls leave to what it leaves.
use Rattle.std.proofs.Common.{◌∙◌, ◌<◌, ℕ, Err, length, sym, ap, arith}
use Rattle.std.proofs.lemmas.Bool.{eq-eqb, ne_eqb}
use Rattle.oai_xml.specs.Trees.{nothing, followed_by}
use Rattle.oai_xml.specs.Contents.{content_in}
use Rattle.oai_xml.proofs.ElementPieces.{too_deep, element_start_stops, element_inside_stops, element_done, inside_none, inside_unclosed, inside_unopened, inside_stops, inside_done, inside_unended, content_none, content_more, content_done, content_stops, markup_piece, reference_piece, characters_piece, section_leaves, left_out_leaves, left_out_fails, element_leaves}
use Rattle.oai_xml.proofs.elements.+elements.Goals as goal

pub element-returns-then-levels-eq0-clause-leaves : goal.element-returns-then-levels-eq0-clause-leaves
element-returns-then-levels-eq0-clause-leaves t c =
    λ steps enough. too_deep (content_in steps) c.args.levels c.args.scope.now.items c.args.bytes.now (eq-eqb c.args.levels 0 c.if-levels-eq0.true) ∙ ap (λ (n : ℕ). Err n) (sym c.fault_at.ensures)

pub element-returns-in-Err-clause-leaves : goal.element-returns-in-Err-clause-leaves
element-returns-in-Err-clause-leaves t c =
    element_start_stops c.args.levels c.args.scope.now.items c.args.bytes.now c.in-Err.stop (ne_eqb c.args.levels 0 c.if-levels-eq0.false) c.in-Err.ensures.leaves

pub element-returns-in-Err-inside-clause-leaves : goal.element-returns-in-Err-inside-clause-leaves
element-returns-in-Err-inside-clause-leaves t c =
    let s = c.in-Ok.ensures.leaves in
    element_inside_stops c.args.levels c.args.scope.now.items c.start.new.scope.items c.args.bytes.now c.in-Ok.read.0.now c.in-Ok.read.1.now s.0 c.in-Err-inside.stop
    (ne_eqb c.args.levels 0 c.if-levels-eq0.false) s.1 s.2.0 s.2.1 s.2.2 c.in-Ok.ensures.shorter c.in-Err-inside.ensures.leaves

pub element-returns-clause-leaves : goal.element-returns-clause-leaves
element-returns-clause-leaves t c =
    let s = c.in-Ok.ensures.leaves in
    let i = c.in-Ok-inside.ensures.leaves in
    element_done c.args.levels c.args.scope.now.items c.start.new.scope.items c.inside.new.scope.items c.truncate.new.self.items c.args.bytes.now c.in-Ok.read.0.now c.in-Ok.read.1.now
    c.in-Ok-inside.rest.now c.args.out.now.items c.start.new.out.items c.inside.new.out.items c.push_end.new.out.items s.0 i.0 (length c.as_slice-outer.result.now)
    (ne_eqb c.args.levels 0 c.if-levels-eq0.false) s.1 s.2.0 s.2.1 s.2.2 s.2.3 c.in-Ok.ensures.shorter i.1 i.2.0 i.2.1 i.2.2 c.in_ok-push_end.ensures
    (ap length c.as_slice-outer.ensures.value) c.truncate.ensures.items

pub content-loop-tag-init : goal.content-loop-tag-init
content-loop-tag-init t c = (nothing, content_none c.args.levels c.args.scope.now.items c.args.bytes.now c.args.out.now.items, omega arith)

pub content-loop-tag-preserved : goal.content-loop-tag-preserved
content-loop-tag-preserved t c =
    let so = c.loop-tag.invariant in
    let p = c.in-Ok.ensures.leaves in
    let short = c.in-Ok.ensures.shorter in (
      followed_by so.0 p.0,
      content_more c.args.levels c.args.scope.now.items c.loop-tag.scope.items c.piece.new.scope.items c.args.bytes.now c.loop-tag.rest.now c.in-Ok.behind.now c.args.out.now.items
          c.loop-tag.out.items c.piece.new.out.items so.0 p.0 so.1 p.1 p.2.0 p.2.1,
      omega (arith, short, so.2),
    )

pub content-returns-in-Some-clause-leaves : goal.content-returns-in-Some-clause-leaves
content-returns-in-Some-clause-leaves t c =
    let so = c.loop-tag.invariant in
    content_done c.args.levels c.args.scope.now.items c.loop-tag.scope.items c.args.bytes.now c.loop-tag.rest.now c.in-Some.tag.now c.args.out.now.items c.loop-tag.out.items so.0 so.1
    c.in-Some.ensures.0 c.in-Some.ensures.1

pub content-returns-in-Err-clause-leaves : goal.content-returns-in-Err-clause-leaves
content-returns-in-Err-clause-leaves t c =
    let so = c.loop-tag.invariant in
    content_stops c.args.levels c.args.scope.now.items c.loop-tag.scope.items c.args.bytes.now c.loop-tag.rest.now c.args.out.now.items c.loop-tag.out.items so.0 c.in-Err.stop so.1 c.in-Err.ensures.leaves

pub inside-returns-in-Ok-clause-leaves : goal.inside-returns-in-Ok-clause-leaves
inside-returns-in-Ok-clause-leaves t c =
    inside_none c.args.levels c.args.scope.now.items c.args.name.now c.args.bytes.now c.in-Ok.rest.now c.args.out.now.items (sym c.begins.ensures ∙ c.if-begins.true) c.in-Ok.ensures.gives

pub inside-returns-in-Err-clause-leaves : goal.inside-returns-in-Err-clause-leaves
inside-returns-in-Err-clause-leaves t c =
    inside_unclosed c.args.levels c.args.scope.now.items c.args.name.now c.args.bytes.now c.in-Err.fault.left (sym c.begins.ensures ∙ c.if-begins.true) c.in-Err.ensures.gives

pub inside-returns-in-Err-past-clause-leaves : goal.inside-returns-in-Err-past-clause-leaves
inside-returns-in-Err-past-clause-leaves t c =
    inside_unopened c.args.levels c.args.scope.now.items c.args.name.now c.args.bytes.now c.in-Err-past.fault.left (sym c.begins.ensures ∙ c.if-begins.false) c.in-Err-past.ensures.gives

pub inside-returns-in-Err-content-clause-leaves : goal.inside-returns-in-Err-content-clause-leaves
inside-returns-in-Err-content-clause-leaves t c =
    let short : length c.in-Ok-past.inner.now < length c.args.bytes.now = let one = c.in-Ok-past.ensures.shorter in omega (arith, one) in
    inside_stops c.args.levels c.args.scope.now.items c.args.name.now c.args.bytes.now c.in-Ok-past.inner.now c.in-Err-content.stop (sym c.begins.ensures ∙ c.if-begins.false)
    c.in-Ok-past.ensures.gives short c.in-Err-content.ensures.leaves

pub inside-returns-in-Ok-past_end-clause-leaves : goal.inside-returns-in-Ok-past_end-clause-leaves
inside-returns-in-Ok-past_end-clause-leaves t c =
    let i = c.in-Ok-content.ensures.leaves in
    let short : length c.in-Ok-past.inner.now < length c.args.bytes.now = let one = c.in-Ok-past.ensures.shorter in omega (arith, one) in
    inside_done c.args.levels c.args.scope.now.items c.content.new.scope.items c.args.name.now c.args.bytes.now c.in-Ok-past.inner.now c.in-Ok-content.behind.now c.in-Ok-past_end.rest.now
    c.args.out.now.items c.content.new.out.items i.0 (sym c.begins.ensures ∙ c.if-begins.false) c.in-Ok-past.ensures.gives short i.1 i.2.0 i.2.1 i.2.2 c.in-Ok-past_end.ensures.gives

pub inside-returns-in-Err-past_end-clause-leaves : goal.inside-returns-in-Err-past_end-clause-leaves
inside-returns-in-Err-past_end-clause-leaves t c =
    let i = c.in-Ok-content.ensures.leaves in
    let short : length c.in-Ok-past.inner.now < length c.args.bytes.now = let one = c.in-Ok-past.ensures.shorter in omega (arith, one) in
    inside_unended c.args.levels c.args.scope.now.items c.args.name.now c.args.bytes.now c.in-Ok-past.inner.now c.in-Ok-content.behind.now i.0 c.in-Err-past_end.fault.left
    (sym c.begins.ensures ∙ c.if-begins.false) c.in-Ok-past.ensures.gives short i.1 i.2.0 c.in-Err-past_end.ensures.gives

pub piece-returns-in-Some-clause-leaves : goal.piece-returns-in-Some-clause-leaves
piece-returns-in-Some-clause-leaves t c =
    let short : length c.in-Some.tag.now < length c.args.bytes.now = let one = c.in-Some.ensures.2 in omega (arith, one) in
    markup_piece c.args.levels c.args.scope.now.items c.markup.new.scope.items c.args.bytes.now c.in-Some.tag.now c.args.out.now.items c.markup.new.out.items c.markup.result c.requires
    c.in-Some.ensures.0 c.in-Some.ensures.1 short c.markup.ensures.shorter c.markup.ensures.leaves

pub piece-returns-in-Some-behind-clause-leaves : goal.piece-returns-in-Some-behind-clause-leaves
piece-returns-in-Some-behind-clause-leaves t c =
    let short : length c.in-Some-behind.name.now < length c.args.bytes.now = let one = c.in-Some-behind.ensures.2 in omega (arith, one) in
    reference_piece c.args.levels c.args.scope.now.items c.args.bytes.now c.in-Some-behind.name.now c.args.out.now.items c.referenced.new.out.items c.referenced.result c.requires c.in-None.ensures
    c.in-Some-behind.ensures.0 c.in-Some-behind.ensures.1 short c.referenced.ensures.shorter c.referenced.ensures.leaves

pub piece-returns-in-None-behind-clause-leaves : goal.piece-returns-in-None-behind-clause-leaves
piece-returns-in-None-behind-clause-leaves t c =
    characters_piece c.args.levels c.args.scope.now.items c.args.bytes.now c.args.out.now.items c.characters.new.out.items c.characters.result c.requires c.in-None.ensures
    c.in-None-behind.ensures c.characters.ensures

pub markup-returns-then-begins-clause-leaves : goal.markup-returns-then-begins-clause-leaves
markup-returns-then-begins-clause-leaves t c =
    section_leaves c.args.levels c.args.scope.now.items c.args.bytes.now c.args.out.now.items c.section.new.out.items c.section.result (sym c.begins.ensures ∙ c.if-begins.true) c.section.ensures.leaves

pub markup-returns-in-Ok-clause-leaves : goal.markup-returns-in-Ok-clause-leaves
markup-returns-in-Ok-clause-leaves t c =
    left_out_leaves c.args.levels c.args.scope.now.items c.args.bytes.now c.in-Ok.rest.now c.args.out.now.items (sym c.begins.ensures ∙ c.if-begins.false) (sym c.begins-2.ensures ∙ c.if-begins-2.true)
    c.in-Ok.ensures.gives

pub markup-returns-in-Err-clause-leaves : goal.markup-returns-in-Err-clause-leaves
markup-returns-in-Err-clause-leaves t c =
    left_out_fails c.args.levels c.args.scope.now.items c.args.bytes.now c.in-Err.fault.left (sym c.begins.ensures ∙ c.if-begins.false) (sym c.begins-2.ensures ∙ c.if-begins-2.true) c.in-Err.ensures.gives

pub markup-returns-clause-leaves : goal.markup-returns-clause-leaves
markup-returns-clause-leaves t c =
    element_leaves c.args.levels c.args.scope.now.items c.element.new.scope.items c.args.bytes.now c.args.out.now.items c.element.new.out.items c.element.result (sym c.begins.ensures ∙ c.if-begins.false)
    (sym c.begins-2.ensures ∙ c.if-begins-2.false) c.element.ensures.leaves
