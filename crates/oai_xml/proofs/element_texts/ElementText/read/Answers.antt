use Rattle.std.proofs.Common.{◌∙◌, take, ap}
use Rattle.oai_xml.proofs.DocumentLemmas.{read_as, refused_as, same_place}
use Rattle.oai_xml.proofs.element_texts.ElementText.read.Goals as goal

pub returns-in-Ok : goal.returns-in-Ok
returns-in-Ok c =
    read_as c.args.text.now c.split_at.result.0.now c.read_front.new.out.items c.legal_len-legal.result c.taken.result c.legal_len-legal.ensures.len
    (c.split_at.ensures.front ∙ ap (take c.legal_len-legal.result) c.as_bytes.ensures.value) c.in-Ok.ensures c.taken.ensures

pub returns-in-Err : goal.returns-in-Err
returns-in-Err c =
    same_place c.args.text.now c.in-Err.fault c.at_character.result c.at_character.ensures
    (refused_as c.args.text.now c.split_at.result.0.now c.read_front.new.out.items c.legal_len-legal.result c.in-Err.fault c.legal_len-legal.ensures.len
    (c.split_at.ensures.front ∙ ap (take c.legal_len-legal.result) c.as_bytes.ensures.value) c.in-Err.ensures)
