-- A name is of ASCII, so bytes that are no text are none.
use Rattle.std.proofs.Common.{inl, refl}
use Rattle.oai_host.proofs.ListLemmas.{prefix_utf8}
use Rattle.oai_host.proofs.list_parts.prefix_in.Goals as goal

pub returns-in_default : goal.returns-in_default
returns-in_default c = inl (refl, λ is. c.in_default.ensures.cases.0 (prefix_utf8 c.args.bytes.now is))
