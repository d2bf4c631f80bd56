use Rattle.std.proofs.Common.{subst}
use Rattle.oai_xml.specs.Roots.{IsRootOf}
use Rattle.oai_xml.proofs.RootLemmas.{only_root}
use Rattle.oai_xml.proofs.roots.Root.of.Goals as goal

pub returns-in-Ok : goal.returns-in-Ok
returns-in-Ok c = λ t s. only_root t c.args.element.now c.in-Ok.root s (subst (λ w. IsRootOf w c.in-Ok.root) c.as_bytes.ensures.value c.in-Ok.ensures)
