use Rattle.oai_item.proofs.Declarations.{AreFormats-declared}
use Rattle.oai_item.proofs.formats.Formats.declare.Goals as goal

pub invariant_of-self : goal.invariant_of-self
invariant_of-self c = AreFormats-declared _ _ _ _ c.self.invariant c.add.ensures.declared c.add.ensures.prefix
