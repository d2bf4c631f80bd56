use Rattle.std.proofs.Common.{◌∙◌, ℕ, Vec, Global, sym, ap}
use Rattle.std.proofs.lemmas.Bool.{false≢true}
use Rattle.oai_xml.proofs.DocumentLemmas.{not_text, is_text}
use Rattle.oai_xml.proofs.element_texts.taken.Goals as goal

pub returns-in_default : goal.returns-in_default
returns-in_default c = not_text c.args.legal c.args.len c.args.out.items (λ u. false≢true (c.in_default.ensures.succeeds u))

pub returns-then-is_xml_text : goal.returns-then-is_xml_text
returns-then-is_xml_text c =
    let same = ap (λ (v : Vec ℕ Global). v.items) c.in-Ok.ensures.ok in
    (same, is_text c.args.legal c.args.len c.args.out.items c.as_str.result.now c.if-legal-len.true (c.as_str.ensures.value ∙ same) c.as_str.utf8 (sym c.is_xml_text.ensures ∙ c.if-is_xml_text.true))
