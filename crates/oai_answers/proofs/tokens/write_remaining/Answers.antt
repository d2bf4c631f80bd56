-- The pieces in order. The moment lies in the range of its type, so that it is passed on as it is.
use Rattle.std.proofs.Common.{arith, FitsSigned, w64, to_z-of_z}
use Rattle.std.proofs.lemmas.Int.{ints}
use Rattle.oai_answers.specs.Documents.{token_element}
use Rattle.oai_answers.proofs.Appending.{◌⨾◌}
use Rattle.oai_answers.proofs.tokens.write_remaining.Goals as goal

pub returns : goal.returns
unfolding token_element
returns c =
    let fits : FitsSigned w64 c.args.remaining.now.expires = omega (arith, ints) in
    let expires = simp to_z-of_z at c.in_ok-second_attribute.ensures in
    c.in_ok-put.ensures ⨾ expires ⨾ c.in_ok-write_extent.ensures ⨾ c.in_ok-put_tag_end.ensures ⨾ c.in_ok-put_text.ensures
    ⨾ c.in_ok-end.ensures
