use Rattle.std.proofs.Common.{◌∙◌, sym}
use Rattle.oai_xml.proofs.ElementPieces.{section_comment, section_cdata}
use Rattle.oai_xml.proofs.elements.section.Goals as goal

pub returns-in-Ok-clause-leaves : goal.returns-in-Ok-clause-leaves
returns-in-Ok-clause-leaves c = section_comment c.args.bytes.now c.in-Ok.rest.now c.args.out.now.items (sym c.begins.ensures ∙ c.if-begins.true) c.in-Ok.ensures.gives

pub returns-in_ok-push_text-in-Ok-cdata-clause-leaves : goal.returns-in_ok-push_text-in-Ok-cdata-clause-leaves
returns-in_ok-push_text-in-Ok-cdata-clause-leaves c =
    section_cdata c.args.bytes.now c.in-Ok-cdata.text.now c.in-Ok-cdata.rest.now c.args.out.now.items c.push_text.new.out.items (sym c.begins.ensures ∙ c.if-begins.false)
    c.in-Ok-cdata.ensures.gives c.in_ok-push_text-in-Ok-cdata.ensures
