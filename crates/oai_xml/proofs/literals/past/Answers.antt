use Rattle.std.proofs.Common.{◌∙◌}
use Rattle.std.proofs.lemmas.List.{nil_from_length}
use Rattle.oai_xml.proofs.LiteralLemmas.{past_short}
use Rattle.oai_xml.proofs.literals.past.Goals as goal

pub returns-in-None-clause-gives : goal.returns-in-None-clause-gives
returns-in-None-clause-gives c =
    c.loop-expected.invariant.0 ∙ past_short c.args.literal.now c.loop-expected.rest.now c.loop-expected.expected-index c.loop-expected-test.true (nil_from_length c.loop-expected.rest.now c.in-None.ensures.cases)
