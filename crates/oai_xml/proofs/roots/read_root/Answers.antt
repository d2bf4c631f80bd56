use Rattle.std.proofs.Common.{◌≡◌, ◌∙◌, Ok, ap, subst}
use Rattle.oai_xml.specs.Contents.{whole_start_in}
use Rattle.oai_xml.specs.Whole.{within}
use Rattle.oai_xml.proofs.RootLemmas.{root_named}
use Rattle.oai_xml.proofs.roots.read_root.Goals as goal

pub returns : goal.returns
returns c =
    let s = c.in-Ok-start.ensures.leaves in
    let reading = subst (λ w. whole_start_in w c.in-Ok.tag.now ≡ Ok s.0) c.new-scope.ensures.items s.1 in
    let scoped = c.deref.ensures.value ∙ s.2.2 ∙ ap (λ w. within w s.0.0.attributes) c.new-scope.ensures.items in (
      s.0.0,
      c.in-Ok.tag.now,
      s.0.1,
      c.in-Ok.ensures.gives,
      reading,
      root_named c.deref.result.now c.in-Ok-start.read.0.now s.0.0.name c.in_ok-namespace.namespace.items c.in_ok-local.local.items s.0.0.attributes s.2.0 scoped
          (c.in_ok-namespace.ensures.items ∙ c.space_of.ensures) (c.in_ok-local.ensures.items ∙ c.local_of.ensures),
    )
