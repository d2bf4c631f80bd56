use Rattle.std.proofs.Common.{◌≡◌, ◌∙◌, true, sym, ap}
use Rattle.std.specs.List.{list_all}
use Rattle.oai_names.specs.ByteTests.{is_plain_byte}
use Rattle.oai_names.proofs.PlainTexts.{plain_text}
use Rattle.oai_names.proofs.texts.is_xml_text.Goals as goal

pub returns-then-all_pass : goal.returns-then-all_pass
returns-then-all_pass c =
    let all : list_all is_plain_byte c.args.text.now ≡ true =
    sym (ap (list_all is_plain_byte) c.as_bytes.ensures.value) ∙ sym c.all_pass.ensures ∙ c.if-all_pass.true in
    c.if-all_pass.true ∙ sym (plain_text c.args.text.now all)
