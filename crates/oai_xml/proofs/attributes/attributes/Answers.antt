use Rattle.std.proofs.Common.{◌≡◌, ◌∙◌, ◌++◌, ◌∷◌, [], false, sym, ap, arith}
use Rattle.oai_xml.specs.Parts.{past_spaces}
use Rattle.oai_xml.specs.Tags.{ends_tag}
use Rattle.oai_xml.proofs.TagPieces.{attributes_none, attributes_more, attributes_whole, attributes_stop}
use Rattle.oai_xml.proofs.attributes.attributes.Goals as goal

pub loop-rest-init : goal.loop-rest-init
loop-rest-init c = ([], attributes_none c.args.bytes.now c.args.names.now.items c.args.scope.now.items c.args.out.now.items, omega arith)

pub returns-then-ends_tag-clause-leaves : goal.returns-then-ends_tag-clause-leaves
returns-then-ends_tag-clause-leaves c =
    attributes_whole c.args.bytes.now c.loop-rest.rest.now c.past_spaces-next.result.now c.args.names.now.items c.loop-rest.names.items c.args.scope.now.items c.loop-rest.scope.items
    c.args.out.now.items c.loop-rest.out.items c.loop-rest.invariant.0 c.loop-rest.invariant.1 c.past_spaces-next.ensures.rest (sym c.ends_tag.ensures ∙ c.if-ends_tag.true)

pub loop-rest-preserved : goal.loop-rest-preserved
loop-rest-preserved c =
    let a = c.in-Ok.ensures.leaves in
    let short = c.in-Ok.ensures.shorter in
    let apart : ends_tag (past_spaces c.loop-rest.rest.now) ≡ false = ap ends_tag (sym c.past_spaces-next.ensures.rest) ∙ sym c.ends_tag.ensures ∙ c.if-ends_tag.false in (
      c.loop-rest.invariant.0 ++ a.0.0 ∷ [],
      attributes_more c.args.bytes.now c.loop-rest.rest.now c.in-Ok.behind.now c.args.names.now.items c.loop-rest.names.items c.spaced_attribute.new.names.items
          c.args.scope.now.items c.loop-rest.scope.items c.spaced_attribute.new.scope.items c.args.out.now.items c.loop-rest.out.items c.spaced_attribute.new.out.items
          c.loop-rest.invariant.0 a.0 c.loop-rest.invariant.1 apart short a.1 a.2.0 a.2.1,
      omega (arith, short, c.loop-rest.invariant.2),
    )

pub returns-in-Err-clause-leaves : goal.returns-in-Err-clause-leaves
returns-in-Err-clause-leaves c =
    let apart : ends_tag (past_spaces c.loop-rest.rest.now) ≡ false = ap ends_tag (sym c.past_spaces-next.ensures.rest) ∙ sym c.ends_tag.ensures ∙ c.if-ends_tag.false in
    attributes_stop c.args.bytes.now c.loop-rest.rest.now c.args.names.now.items c.loop-rest.names.items c.args.scope.now.items c.loop-rest.scope.items
    c.args.out.now.items c.loop-rest.out.items c.loop-rest.invariant.0 c.in-Err.stop c.loop-rest.invariant.1 apart c.in-Err.ensures.leaves
