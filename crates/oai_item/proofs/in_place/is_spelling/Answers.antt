use Rattle.std.proofs.Common.{◌∙◌, sym}
use Rattle.std.proofs.lemmas.Result.{IfOk-weaker}
use Rattle.oai_item.specs.SpellingParts.{item_of}
use Rattle.oai_item.proofs.Placed.{agree_is, none_is}
use Rattle.oai_item.proofs.in_place.is_spelling.Goals as goal

pub returns-in-Some-clause-spells : goal.returns-in-Some-clause-spells
returns-in-Some-clause-spells c =
    IfOk-weaker c.parts_agree.result _ _ (λ agree is. is ∙ agree_is c.args.bytes.now (item_of c.in-Some.parts) c.in-Some.ensures) c.parts_agree.ensures

pub returns-in-None-clause-spells : goal.returns-in-None-clause-spells
returns-in-None-clause-spells c = sym (none_is c.args.bytes.now c.in-None.ensures)
