use Rattle.oai_item.proofs.FormatLemmas.{format_named-prefix}
use Rattle.oai_item.proofs.formats.Formats.find_named.Goals as goal

pub returns-clause-prefix : goal.returns-clause-prefix
returns-clause-prefix c = rw c.format_named.ensures (format_named-prefix _ _)
