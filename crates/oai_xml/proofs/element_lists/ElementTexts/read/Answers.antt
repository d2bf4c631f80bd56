use Rattle.std.proofs.Common.{◌∙◌, ap}
use Rattle.std.specs.List.{list_all}
use Rattle.std.proofs.lemmas.List.{drop_all}
use Rattle.oai_xml.specs.Documents.{is_canonical}
use Rattle.oai_xml.proofs.ListedElements.{all_canonical, is_done}
use Rattle.oai_xml.proofs.element_lists.ElementTexts.read.Goals as goal

pub invariant_of-result : goal.invariant_of-result
invariant_of-result c =
    let none = drop_all c.loop-text.text-index c.args.texts.now c.loop-text-test.false in
    ap (list_all is_canonical) c.new.ensures
    ∙ all_canonical c.args.texts.now _ (is_done c.loop-text.elements.items _ _ none c.loop-text.invariant)
