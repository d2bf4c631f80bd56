use Rattle.std.proofs.Common.{◌∙◌, ◌<◌, length, sym, ap, arith}
use Rattle.std.specs.Prelude.{codes}
use Rattle.oai_xml.specs.Readings.{begins}
use Rattle.oai_xml.specs.Documents.{whole_comment_in, whole_instruction_in}
use Rattle.oai_xml.proofs.Miscellaneous.{comment_passed, comment_failed, instruction_passed, instruction_failed, misc_ended}
use Rattle.oai_xml.proofs.documents.past_one.Goals as goal

pub returns-in-Ok : goal.returns-in-Ok
returns-in-Ok c =
    let here = ap (begins (codes "<!")) (sym c.past_spaces-next.ensures.rest) ∙ sym c.begins.ensures ∙ c.if-begins.true in
    let shorter : length c.in-Ok.rest.now < length c.args.bytes.now = let one = c.in-Ok.ensures.shorter in let two = c.past_spaces-next.ensures.within in omega (arith, one, two) in
    (comment_passed c.args.bytes.now c.in-Ok.rest.now here shorter (ap whole_comment_in (sym c.past_spaces-next.ensures.rest) ∙ c.in-Ok.ensures.gives), shorter)

pub returns-in-Err : goal.returns-in-Err
returns-in-Err c =
    let here = ap (begins (codes "<!")) (sym c.past_spaces-next.ensures.rest) ∙ sym c.begins.ensures ∙ c.if-begins.true in
    comment_failed c.args.bytes.now c.in-Err.fault.left here (ap whole_comment_in (sym c.past_spaces-next.ensures.rest) ∙ c.in-Err.ensures.gives)

pub returns-in-Ok-instruction : goal.returns-in-Ok-instruction
returns-in-Ok-instruction c =
    let none = ap (begins (codes "<!")) (sym c.past_spaces-next.ensures.rest) ∙ sym c.begins.ensures ∙ c.if-begins.false in
    let here = ap (begins (codes "<?")) (sym c.past_spaces-next.ensures.rest) ∙ sym c.begins-2.ensures ∙ c.if-begins-2.true in
    let shorter : length c.in-Ok-instruction.rest.now < length c.args.bytes.now =
    let one = c.in-Ok-instruction.ensures.shorter in let two = c.past_spaces-next.ensures.within in omega (arith, one, two) in
    (instruction_passed c.args.bytes.now c.in-Ok-instruction.rest.now none here shorter (ap whole_instruction_in (sym c.past_spaces-next.ensures.rest) ∙ c.in-Ok-instruction.ensures.gives), shorter)

pub returns-in-Err-instruction : goal.returns-in-Err-instruction
returns-in-Err-instruction c =
    let none = ap (begins (codes "<!")) (sym c.past_spaces-next.ensures.rest) ∙ sym c.begins.ensures ∙ c.if-begins.false in
    let here = ap (begins (codes "<?")) (sym c.past_spaces-next.ensures.rest) ∙ sym c.begins-2.ensures ∙ c.if-begins-2.true in
    instruction_failed c.args.bytes.now c.in-Err-instruction.fault.left none here (ap whole_instruction_in (sym c.past_spaces-next.ensures.rest) ∙ c.in-Err-instruction.ensures.gives)

pub returns : goal.returns
returns c =
    let none = ap (begins (codes "<!")) (sym c.past_spaces-next.ensures.rest) ∙ sym c.begins.ensures ∙ c.if-begins.false in
    let other = ap (begins (codes "<?")) (sym c.past_spaces-next.ensures.rest) ∙ sym c.begins-2.ensures ∙ c.if-begins-2.false in
    misc_ended c.args.bytes.now none other
