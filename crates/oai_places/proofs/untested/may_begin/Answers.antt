use Rattle.std.proofs.Common.{◌∙◌, sym}
use Rattle.std.proofs.lemmas.Bool.{true_from_ne_false}
use Rattle.std.proofs.lemmas.List.{take_rest}
use Rattle.oai_places.proofs.FindingLemmas.{first_spelled, named_not, spelled_here}
use Rattle.oai_places.proofs.untested.may_begin.Goals as goal

pub returns-in-Some : goal.returns-in-Some
returns-in-Some c = λ items stamp is_page begins.
    let first = first_spelled c.args.page.now items is_page in
    let parts = c.in-Some.ensures.parts first.item first.behind first.spelled (take_rest c.args.page.now 4 ∙ first.parts) in
    true_from_ne_false c.may_be_named.result
    (λ no. named_not stamp c.args.identifier.now first.item (sym (first.first stamp c.args.identifier.now) ∙ begins)
    (c.may_be_named.ensures first.item (spelled_here c.in-Some.spelling.now first.item parts.0 first.spelled) no))

pub returns-in-None : goal.returns-in-None
returns-in-None c = λ items stamp is_page begins.
    let first = first_spelled c.args.page.now items is_page in
    absurd (c.in-None.ensures.parts first.item first.behind first.spelled (take_rest c.args.page.now 4 ∙ first.parts))
