use Rattle.std.proofs.Common.{◌∙◌, length, sym, ap, subst}
use Rattle.oai_xml.specs.Reads.{IsFaultOf}
use Rattle.oai_xml.proofs.DocumentLemmas.{as_it_is, front_read, front_refused}
use Rattle.oai_xml.proofs.element_texts.read_front.Goals as goal

pub returns-in-Ok : goal.returns-in-Ok
returns-in-Ok c =
    front_read c.args.text.now c.args.text.now c.args.out.now.items c.document.new.out.items (as_it_is c.args.text.now (sym c.contains.ensures.value ∙ c.if-not-contains.true)) c.requires c.in-Ok.ensures

pub returns-in-Err : goal.returns-in-Err
returns-in-Err c =
    front_refused c.args.text.now c.args.text.now c.document.new.out.items c.in-Err.stop c.fault_of.result (as_it_is c.args.text.now (sym c.contains.ensures.value ∙ c.if-not-contains.true)) c.in-Err.ensures
    c.fault_of.ensures

pub returns : goal.returns
returns c =
    let at = subst (λ n. IsFaultOf c.args.text.now n c.in-Err-document.stop c.fault_of-in-Err-document.result) (ap length (c.as_slice-in-Err-document.ensures.value ∙ sym c.as_slice.ensures.value))
    c.fault_of-in-Err-document.ensures in
    front_refused c.args.text.now c.as_slice.result.now c.document-2.new.out.items c.in-Err-document.stop c.fault_of-in-Err-document.result
    (sym c.in-Ok-normalized.ensures ∙ sym c.as_slice.ensures.value) c.in-Err-document.ensures at
