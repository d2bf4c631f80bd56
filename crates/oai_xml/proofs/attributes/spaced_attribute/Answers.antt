use Rattle.std.proofs.Common.{◌≡◌}
use Rattle.oai_xml.specs.Tags.{attribute_in, spaced_attribute_in}
use Rattle.oai_xml.proofs.TagPieces.{spaced_as, unspaced}
use Rattle.oai_xml.proofs.attributes.spaced_attribute.Goals as goal

pub returns-in-Ok-clause-leaves : goal.returns-in-Ok-clause-leaves
returns-in-Ok-clause-leaves c =
    let e : spaced_attribute_in c.args.bytes.now ≡ attribute_in c.in-Ok.rest.now = spaced_as c.args.bytes.now c.in-Ok.rest.now c.in-Ok.ensures.gives in
    rw e c.attribute.ensures.leaves

pub returns-in-Err-clause-leaves : goal.returns-in-Err-clause-leaves
returns-in-Err-clause-leaves c = unspaced c.args.bytes.now c.in-Err.fault.left c.in-Err.ensures.gives
