use Rattle.std.proofs.Common.{◌≡◌, ◌<◌, ℕ, Ok, length, subst}
use Rattle.oai_xml.specs.Answers.{StopsIn}
use Rattle.oai_xml.specs.Contents.{element_in, content_in}
use Rattle.oai_xml.specs.declared.limits.TheConstants.{MAX_DEPTH}
use Rattle.oai_xml.proofs.DocumentLemmas.{prolog_fails, root_stops, tail_fails, document_done}
use Rattle.oai_xml.proofs.documents.document.Goals as goal

pub returns-in-Err : goal.returns-in-Err
returns-in-Err c = prolog_fails c.args.bytes.now c.in-Err.fault.left c.in-Err.ensures

pub returns-in-Err-element : goal.returns-in-Err-element
returns-in-Err-element c =
    root_stops c.args.bytes.now c.in-Ok.tag.now c.in-Err-element.stop c.in-Ok.ensures
    (subst (λ s. StopsIn (λ steps. element_in (content_in steps) MAX_DEPTH s c.in-Ok.tag.now) c.in-Ok.tag.now c.in-Err-element.stop) c.new-scope.ensures.items c.in-Err-element.ensures.leaves)

pub returns-in-Ok-past_end : goal.returns-in-Ok-past_end
returns-in-Ok-past_end c =
    let e = c.in-Ok-element.ensures.leaves in
    let reading = subst (λ s. (steps : ℕ) → length c.in-Ok.tag.now < steps → element_in (content_in steps) MAX_DEPTH s c.in-Ok.tag.now ≡ Ok e.0) c.new-scope.ensures.items e.1 in
    document_done c.args.bytes.now c.in-Ok.tag.now c.in-Ok-element.behind.now c.args.out.now.items c.element.new.out.items e.0 c.in-Ok.ensures reading e.2.0 c.in-Ok-past_end.ensures e.2.2

pub returns : goal.returns
returns c =
    let e = c.in-Ok-element.ensures.leaves in
    let reading = subst (λ s. (steps : ℕ) → length c.in-Ok.tag.now < steps → element_in (content_in steps) MAX_DEPTH s c.in-Ok.tag.now ≡ Ok e.0) c.new-scope.ensures.items e.1 in
    tail_fails c.args.bytes.now c.in-Ok.tag.now c.in-Ok-element.behind.now e.0 c.in-Err-past_end.fault.left c.in-Ok.ensures reading e.2.0 c.in-Err-past_end.ensures
