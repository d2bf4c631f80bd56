use Rattle.std.proofs.Common.{◌≡◌, suc, Ok, Err, length, arith}
use Rattle.std.specs.Prelude.{codes}
use Rattle.oai_xml.specs.Readings.{past}
use Rattle.oai_xml.specs.Documents.{prolog_in}
use Rattle.oai_xml.proofs.DocumentLemmas.{unopened_fails, prolog_misc}
use Rattle.oai_xml.proofs.documents.past_prolog.Goals as goal

pub returns-in-Err : goal.returns-in-Err
returns-in-Err c = unopened_fails c.args.bytes.now c.in-Err.fault.left c.in-Err.ensures.gives

pub returns-in-Ok-past_misc : goal.returns-in-Ok-past_misc
returns-in-Ok-past_misc c =
    let e : prolog_in c.args.bytes.now ≡ past (codes "<") c.in-Ok-past_misc.rest.now =
    prolog_misc c.args.bytes.now c.in-Ok.rest.now (Ok c.in-Ok-past_misc.rest.now) c.in-Ok.ensures.gives (c.in-Ok-past_misc.ensures.gives (suc (length c.in-Ok.rest.now)) (omega arith)) in
    rw e c.past.ensures.gives

pub returns-in-Err-past_misc : goal.returns-in-Err-past_misc
returns-in-Err-past_misc c =
    prolog_misc c.args.bytes.now c.in-Ok.rest.now (Err c.in-Err-past_misc.fault.left) c.in-Ok.ensures.gives (c.in-Err-past_misc.ensures.gives (suc (length c.in-Ok.rest.now)) (omega arith))
