use Rattle.std.proofs.Common.{sym, ◌∙◌}
use Rattle.oai_json.proofs.JsonLemmas.{size-Object}
use Rattle.oai_json.proofs.values.size.Goals as goal

pub returns-in-Object : goal.returns-in-Object
returns-in-Object c = rw c.in-Object.is (c.len.ensures.len ∙ sym (size-Object c.in-Object.members))
