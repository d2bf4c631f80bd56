-- The pieces in order. The date lies in the range of its type, so that it is passed on as it is.
use Rattle.std.proofs.Common.{arith, FitsSigned, w64, to_z-of_z}
use Rattle.std.proofs.lemmas.Int.{ints}
use Rattle.oai_answers.specs.Documents.{document}
use Rattle.oai_answers.proofs.Appending.{◌⨾◌}
use Rattle.oai_answers.proofs.documents.append.Goals as goal

pub returns : goal.returns
unfolding document
returns c =
    let fits : FitsSigned w64 c.args.doc.now.date = omega (arith, ints) in
    let date = simp to_z-of_z at c.in_ok-second_element.ensures in
    c.in_ok-write_head.ensures ⨾ date ⨾ c.in_ok-write_request.ensures ⨾ c.in_ok-write_body.ensures
    ⨾ c.in_ok-put.ensures
