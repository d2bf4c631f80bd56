use Rattle.std.proofs.Common.{◌∙◌, sym, ap}
use Rattle.oai_names.specs.Characters.{is_xml_text}
use Rattle.oai_args.proofs.DecodingLemmas.{unescaped_ascii, unescaped_decoded, unescaped_xml}
use Rattle.oai_args.proofs.decodings.unescaped_text.Goals as goal

pub ascii_str-requires : goal.ascii_str-requires
ascii_str-requires c = unescaped_ascii c.args.bytes.now (sym c.all_pass.ensures ∙ c.if-all_pass.true)

pub returns-then-all_pass-clause-decoded : goal.returns-then-all_pass-clause-decoded
returns-then-all_pass-clause-decoded c =
    c.ascii_str.ensures ∙ sym (unescaped_decoded c.args.bytes.now (sym c.all_pass.ensures ∙ c.if-all_pass.true))

pub returns-then-all_pass-clause-xml : goal.returns-then-all_pass-clause-xml
returns-then-all_pass-clause-xml c =
    ap is_xml_text c.ascii_str.ensures ∙ unescaped_xml c.args.bytes.now (sym c.all_pass.ensures ∙ c.if-all_pass.true)
