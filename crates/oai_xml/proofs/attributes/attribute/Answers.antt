use Rattle.oai_xml.proofs.TagPieces.{attribute_so, tells_one}
use Rattle.oai_xml.proofs.attributes.attribute.Goals as goal

pub returns-clause-leaves : goal.returns-clause-leaves
returns-clause-leaves c =
    let v = c.in_ok-rest.ensures.leaves in (
      (record { name = c.in-Ok.read.0.now; value = v.0.0 }, v.0.1),
      attribute_so c.args.bytes.now c.in-Ok.read.0.now c.in-Ok.read.1.now c.in-Ok-past_equals.rest.now v.0 c.in-Ok.ensures.gives c.in-Ok-past_equals.ensures.gives v.1,
      (
        v.2.0,
        tells_one c.in-Ok.read.0.now v.0.0 c.args.names.now.items c.push.new.self.items c.args.scope.now.items c.declare.new.scope.items c.args.out.now.items c.spell.new.out.items
            c.in_ok-push.ensures.items (c.in_ok-declare.ensures v.0.0 v.0.1 v.1) v.2.1,
      ),
    )
