-- The datestamp lies in the range of its type, so that it is passed on as it is.
use Rattle.std.proofs.Common.{arith, FitsSigned, w64, to_z-of_z}
use Rattle.std.proofs.lemmas.Int.{ints}
use Rattle.oai_answers.proofs.Appending.{◌⨾◌}
use Rattle.oai_answers.proofs.identify.write_rules.Goals as goal

pub returns : goal.returns
returns c =
    let fits : FitsSigned w64 c.args.identity.now.earliest = omega (arith, ints) in
    let earliest = simp to_z-of_z at c.in_ok-datestamp_element.ensures in
    let deleted = rw c.policy_text.ensures at c.in_ok-plain_element.ensures in
    let granularity = rw c.granularity_text.ensures at c.in_ok-plain_element-2.ensures in
    earliest ⨾ deleted ⨾ granularity
