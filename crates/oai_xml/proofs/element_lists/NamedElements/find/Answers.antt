use Rattle.std.proofs.Common.{List, ap, ◌∙◌}
use Rattle.oai_xml.specs.Named.{NamedList, elements_named, elements_of}
use Rattle.oai_xml.proofs.element_lists.NamedElements.find.Goals as goal

pub returns-in-Some-clause-texts : goal.returns-in-Some-clause-texts
unfolding elements_named
returns-in-Some-clause-texts c =
    c.as_slice.ensures.texts ∙ ap elements_of c.in-Some.ensures
    ∙ ap (λ (lists : List NamedList). elements_named lists c.args.name.now) (c.deref.ensures.value ∙ c.self.view_is)

pub returns-in-None-clause-texts : goal.returns-in-None-clause-texts
unfolding elements_named
returns-in-None-clause-texts c =
    ap elements_of c.in-None.ensures ∙ ap (λ (lists : List NamedList). elements_named lists c.args.name.now) (c.deref.ensures.value ∙ c.self.view_is)
